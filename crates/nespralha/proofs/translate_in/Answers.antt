-- `nespralha::translate_in` meets its contract. Assumes nothing.
use Rattle.nespralha.proofs.translate_in.Goals as goal

pub returns : goal.returns
returns g c =
    c.translate_table.ensures c.args.text.now c.read_table-read.new.table.bodies (rw (c.view.ensures.functions, c.view.ensures.symbols.0, c.view.ensures.symbols.1) (record { answer = c.read_table-read.ensures.answer; held = c.read_table-read.ensures.table }))
