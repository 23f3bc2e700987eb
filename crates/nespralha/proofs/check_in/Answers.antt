-- `nespralha::check_in` meets its contract. Assumes nothing.
use Rattle.answers.proofs.Laws.{counts_within}
use Rattle.nespralha.proofs.check_in.Goals as goal

pub check_table-requires : goal.check_table-requires
check_table-requires g c = rw c.view.ensures.functions (counts_within _ _ _ _ _ _ (record { answer = c.read_table-read.ensures.answer; held = c.read_table-read.ensures.table }))

pub returns : goal.returns
returns g c =
    c.check_table.ensures c.args.text.now c.read_table-read.new.table.symbols c.read_table-read.new.table.ends (rw c.view.ensures.functions (record { answer = c.read_table-read.ensures.answer; held = c.read_table-read.ensures.table }))
