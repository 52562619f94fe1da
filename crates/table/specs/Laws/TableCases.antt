-- Worked cases of the readings table as one theorem: document 01's examples and the ends of its ranges. Assumes nothing.
use Rattle.std.specs.Prelude.{◌≡◌, refl, List, [], ◌∷◌, ◌++◌, ℕ}
use Rattle.lists.specs.Tests.{within}
use Rattle.lists.specs.Refusals.{first_of}
use Rattle.table_text.specs.TableText.{digits, decimal, separator_after, printed, name, names, names_line, table_text}
use Rattle.table_scan.specs.Values.{is_digit}
use Rattle.table.specs.Table.{in_range, same, starts_with_names, later_lines, numbers, values, all_fit, well_formed, read_number, line_count, from_start, read_output}

-- the bytes of document 01's table: E1,R1,R2 and the lines 70001,20000,60000 and 30000,5000,0
abbrev example_text : List ℕ
example_text = 69 ∷ 49 ∷ 44 ∷ 82 ∷ 49 ∷ 44 ∷ 82 ∷ 50 ∷ 10 ∷ 55 ∷ 48 ∷ 48 ∷ 48 ∷ 49 ∷ 44 ∷ 50 ∷ 48 ∷ 48 ∷ 48 ∷ 48 ∷ 44 ∷ 54 ∷ 48 ∷ 48 ∷ 48 ∷ 48 ∷ 10 ∷ 51 ∷ 48 ∷ 48 ∷ 48 ∷ 48 ∷ 44 ∷ 53 ∷ 48 ∷ 48 ∷ 48 ∷ 44 ∷ 48 ∷ 10 ∷ []

-- the names line of G = C = 1: E1,R1
abbrev names_e1_r1 : List ℕ
names_e1_r1 = 69 ∷ 49 ∷ 44 ∷ 82 ∷ 49 ∷ 10 ∷ []

pub cases :
    -- document 01's table: two lines into space for six values, and into space for five
    (read_number 1 2 example_text 6 ≡ 0) × (line_count 1 2 example_text ≡ 2)
    × (read_number 1 2 example_text 5 ≡ 16)
    -- G or C outside range, also where the names line differs too
    × (read_number 9 2 example_text 6 ≡ 2)
    × (read_number 0 2 example_text 6 ≡ 2)
    × (read_number 1 17 example_text 6 ≡ 2)
    × (read_number 1 0 example_text 6 ≡ 2)
    -- E1,R2 for G = C = 1; the names line without its line feed, or with a carriage return; no text
    × (read_number 1 1 (69 ∷ 49 ∷ 44 ∷ 82 ∷ 50 ∷ 10 ∷ []) 6 ≡ 14)
    × (read_number 1 1 (69 ∷ 49 ∷ 44 ∷ 82 ∷ 49 ∷ []) 6 ≡ 14)
    × (read_number 1 1 (69 ∷ 49 ∷ 44 ∷ 82 ∷ 49 ∷ 13 ∷ 10 ∷ []) 6 ≡ 14)
    × (read_number 1 1 [] 6 ≡ 14)
    -- the names line alone
    × (read_number 1 1 names_e1_r1 0 ≡ 0) × (line_count 1 1 names_e1_r1 ≡ 0)
    -- 07,5; no last line feed; a value too few, a value too many; an empty value; a carriage return; a blank line; +1
    × (read_number 1 1 (names_e1_r1 ++ (48 ∷ 55 ∷ 44 ∷ 53 ∷ 10 ∷ [])) 6 ≡ 15)
    × (read_number 1 1 (names_e1_r1 ++ (55 ∷ 44 ∷ 53 ∷ [])) 6 ≡ 15)
    × (read_number 1 1 (names_e1_r1 ++ (55 ∷ 10 ∷ [])) 6 ≡ 15)
    × (read_number 1 1 (names_e1_r1 ++ (55 ∷ 44 ∷ 53 ∷ 44 ∷ 54 ∷ 10 ∷ [])) 6 ≡ 15)
    × (read_number 1 1 (names_e1_r1 ++ (44 ∷ 53 ∷ 10 ∷ [])) 6 ≡ 15)
    × (read_number 1 1 (names_e1_r1 ++ (55 ∷ 44 ∷ 53 ∷ 13 ∷ 10 ∷ [])) 6 ≡ 15)
    × (read_number 1 1 (names_e1_r1 ++ (55 ∷ 44 ∷ 53 ∷ 10 ∷ 10 ∷ [])) 6 ≡ 15)
    × (read_number 1 1 (names_e1_r1 ++ (43 ∷ 49 ∷ 44 ∷ 53 ∷ 10 ∷ [])) 6 ≡ 15)
    -- the largest value, and one more
    × (read_number 1 1 (names_e1_r1 ++ (52 ∷ 50 ∷ 57 ∷ 52 ∷ 57 ∷ 54 ∷ 55 ∷ 50 ∷ 57 ∷ 53 ∷ 44 ∷ 48 ∷ 10 ∷ [])) 6 ≡ 0) × (line_count 1 1 (names_e1_r1 ++ (52 ∷ 50 ∷ 57 ∷ 52 ∷ 57 ∷ 54 ∷ 55 ∷ 50 ∷ 57 ∷ 53 ∷ 44 ∷ 48 ∷ 10 ∷ [])) ≡ 1)
    × (read_number 1 1 (names_e1_r1 ++ (52 ∷ 50 ∷ 57 ∷ 52 ∷ 57 ∷ 54 ∷ 55 ∷ 50 ∷ 57 ∷ 54 ∷ 44 ∷ 48 ∷ 10 ∷ [])) 6 ≡ 15)
    -- 2 lines, space for 1; the last of them malformed
    × (read_number 1 1 (names_e1_r1 ++ (55 ∷ 44 ∷ 53 ∷ 10 ∷ 56 ∷ 44 ∷ 54 ∷ 10 ∷ [])) 2 ≡ 16)
    × (read_number 1 1 (names_e1_r1 ++ (55 ∷ 44 ∷ 53 ∷ 10 ∷ 56 ∷ 44 ∷ 48 ∷ 54 ∷ 10 ∷ [])) 2 ≡ 15)
    -- the values from the start, the rest left; a refusal leaves all
    × (read_output 1 2 example_text (9 ∷ 9 ∷ 9 ∷ 9 ∷ 9 ∷ 9 ∷ 9 ∷ []) ≡ (70001 ∷ 20000 ∷ 60000 ∷ 30000 ∷ 5000 ∷ 0 ∷ 9 ∷ []))
    × (read_output 1 2 example_text (9 ∷ 9 ∷ []) ≡ (9 ∷ 9 ∷ []))
    -- the written form
    × (table_text 1 2 (70001 ∷ 20000 ∷ 60000 ∷ 30000 ∷ 5000 ∷ 0 ∷ []) ≡ example_text)
    × (names_line 8 16 ≡ (69 ∷ 49 ∷ 44 ∷ 69 ∷ 50 ∷ 44 ∷ 69 ∷ 51 ∷ 44 ∷ 69 ∷ 52 ∷ 44 ∷ 69 ∷ 53 ∷ 44 ∷ 69 ∷ 54 ∷ 44 ∷ 69 ∷ 55 ∷ 44 ∷ 69 ∷ 56 ∷ 44 ∷ 82 ∷ 49 ∷ 44 ∷ 82 ∷ 50 ∷ 44 ∷ 82 ∷ 51 ∷ 44 ∷ 82 ∷ 52 ∷ 44 ∷ 82 ∷ 53 ∷ 44 ∷ 82 ∷ 54 ∷ 44 ∷ 82 ∷ 55 ∷ 44 ∷ 82 ∷ 56 ∷ 44 ∷ 82 ∷ 57 ∷ 44 ∷ 82 ∷ 49 ∷ 48 ∷ 44 ∷ 82 ∷ 49 ∷ 49 ∷ 44 ∷ 82 ∷ 49 ∷ 50 ∷ 44 ∷ 82 ∷ 49 ∷ 51 ∷ 44 ∷ 82 ∷ 49 ∷ 52 ∷ 44 ∷ 82 ∷ 49 ∷ 53 ∷ 44 ∷ 82 ∷ 49 ∷ 54 ∷ 10 ∷ []))
unfolding digits decimal separator_after printed name names names_line table_text is_digit within numbers same all_fit well_formed in_range starts_with_names later_lines values first_of read_number from_start read_output
cases = (refl, refl, refl, refl, refl, refl, refl, refl, refl, refl, refl, refl, refl, refl, refl, refl, refl, refl, refl, refl, refl, refl, refl, refl, refl, refl, refl, refl, refl, refl)
