-- `kinds::Registers::operate` meets its contract. Assumes nothing.
use Rattle.kinds.proofs.Meeting.{meets_as}
use Rattle.kinds.proofs.Operations.{rewrites_constant, exec_constant}
use Rattle.kinds.proofs.Registers.operate.Goals as goal

pub returns : goal.returns
returns c =
    let is-constant = c.if-instruction-ne0.false in
    meets_as c.args.self.tally (exec_constant _ _ _ _ _ is-constant _) (rewrites_constant _ _ _ is-constant) c.rewrite.ensures c.push.ensures
