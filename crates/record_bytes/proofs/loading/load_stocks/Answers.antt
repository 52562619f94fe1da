use Rattle.record_bytes.proofs.loading.load_stocks.Goals as goal

pub returns : goal.returns
returns c = cc
