-- `heads::put_heads` meets its contract. Assumes nothing.
use Rattle.std.proofs.Common.{refl, length, ◌∙◌, arith}
use Rattle.std.proofs.lemmas.Iterator.{YieldsList-from_slice, YieldsList-from_zip}
use Rattle.std.proofs.lemmas.Iterator.Consumers.{YieldsList-from_enumerate, YieldsList-turn, YieldsList-end}
use Rattle.std.proofs.lemmas.List.{length_push}
use Rattle.heads.specs.Heads.{heads_list}
use Rattle.heads.proofs.Laws.{one_more, all_put}
use Rattle.heads.proofs.put_heads.Goals as goal

pub loop-i-init : goal.loop-i-init
unfolding heads_list
loop-i-init c = refl

pub loop-i-preserved : goal.loop-i-preserved
loop-i-preserved c =
    let t = YieldsList-turn (YieldsList-from_enumerate (YieldsList-from_zip (YieldsList-from_slice c.args.signatures.now cc) (YieldsList-from_slice c.args.bodies.now cc)) cc) c.loop-i.yielded _ c.loop-i.yielded_by _ c.next.new.self _ c.in-Some.is c.next.ensures.steps in
    rw (c.loop-i.invariant, length_push) (one_more c.args.signatures.now c.args.bodies.now c.args.heads.now (length c.loop-i.yielded) _ c.head_of.result c.requires.0 t c.head_of.ensures)

pub returns : goal.returns
returns c =
    let t = YieldsList-end (YieldsList-from_enumerate (YieldsList-from_zip (YieldsList-from_slice c.args.signatures.now cc) (YieldsList-from_slice c.args.bodies.now cc)) cc) c.loop-i.yielded _ c.loop-i.yielded_by _ c.next.new.self c.in-None.is c.next.ensures.steps in
    c.loop-i.invariant ∙ all_put c.args.signatures.now c.args.bodies.now c.args.heads.now (length c.loop-i.yielded) (omega arith) t.1
