-- Document 01, "Readings table": what program `wheel` prints for a text. Assumes nothing.
use Rattle.std.specs.Prelude.{ℕ, ◌&&◌, List, [], ◌∷◌, ◌++◌, eqb, ltb, length, if◌then◌else◌}
use Rattle.table_text.specs.TableText.{printed}
use Rattle.table.specs.Table.{starts_with_names, values, read_number}
use Rattle.record.specs.Book.{Book}
use Rattle.record.specs.declared.GeneratorTerms.{GeneratorTerms}
use Rattle.agreement_rules.specs.Opening.{opened}
use Rattle.book.specs.BookCalls.{Call, block, closing, book_after, BookAnswer, book_answers}
use Rattle.book.specs.AgreementA.{agreement_a, schedule_a}
use Rattle.wheel_rules.specs.PrintedWords.{bytes}

-- ---- the table

-- 64 KiB
abbrev pub most_input : ℕ
most_input = 65_536

-- 'with space for 10,080 values'
abbrev pub space : ℕ
space = 10_080

-- The reader's number on the display. 'Input past 64 KiB counts as a malformed later line': 14, the names line differs, comes first.
unfoldable pub table_number : List ℕ → ℕ
table_number text = if starts_with_names 1 2 text && ltb most_input (length text) then 15 else read_number 1 2 text space

-- ---- the calls

-- 'enters each line as a block': E1, then R1 and R2; the output of a block has 4GC + G + C = 11 numbers. The values of a table
-- that the reader accepts are whole lines, so the last three cases are those of no line left.
unfoldable pub blocks : List ℕ → List Call
blocks (e ∷ r₁ ∷ r₂ ∷ vs) = block (e ∷ []) (r₁ ∷ r₂ ∷ []) 11 ∷ blocks vs
blocks (e ∷ r₁ ∷ []) = []
blocks (e ∷ []) = []
blocks [] = []

-- the schedule of agreement A, a block for each line, and a closing, whose output has GC + 3G + 2C = 9 numbers
unfoldable pub calls : List ℕ → List Call
calls vs = schedule_a ∷ (blocks vs ++ (closing 9 ∷ []))

-- the number of the first call that the book refuses; 0 where it refuses none
unfoldable pub first_refused : List BookAnswer → ℕ
first_refused [] = 0
first_refused (e ∷ es) = if eqb e.number 0 then first_refused es else e.number

-- the book of agreement A: what it answers to the calls for the values vs, and what it holds after them
unfoldable pub call_number : List ℕ → ℕ
call_number vs = first_refused (book_answers (opened agreement_a) (calls vs))

unfoldable pub last_book : List ℕ → Book
last_book vs = book_after (opened agreement_a) (calls vs)

-- ---- what is printed

-- 'On a refusal it prints `refused ` and the number only'
unfoldable pub refused_text : ℕ → List ℕ
refused_text number = bytes "refused " ++ printed 1 0 (number ∷ [])

-- 'prints the generator number and its nine-term equation', below a line of names
unfoldable pub equation_text : GeneratorTerms → List ℕ
equation_text x =
    bytes "generator,injected,unaccounted,loss,setoff,inadvertent,charge,drawn,lapsed,bank,pending\n" ++
    printed 11 0
    (1 ∷ x.injected ∷ x.unaccounted ∷ x.lost ∷ x.setoff ∷ x.inadvertent ∷ x.charge ∷ x.drawn ∷ x.lapsed ∷ x.bank ∷ x.pending ∷ [])

-- what is printed for the values of a table that the reader accepts: generator 1 is counted from 0 in the book
unfoldable pub account_text : List ℕ → List ℕ
account_text vs = if eqb (call_number vs) 0 then equation_text ((last_book vs).gen 0) else refused_text (call_number vs)

-- The table is read first, so a number of the reader comes before any of a call.
unfoldable pub display : List ℕ → List ℕ
display text = if eqb (table_number text) 0 then account_text (values 1 2 text) else refused_text (table_number text)
