use Rattle.std.proofs.Common.{refl, subst, sym, true}
use Rattle.wcv_spaces.specs.Contents.{Contents}
use Rattle.wcv_spaces.specs.Promises.{Keeps}
use Rattle.wcv_spaces.proofs.Keeping.{keeps_marked}
use Rattle.wcv_decls.proofs.stack.ComponentStateDeclare.add_core_module.Goals as goal

pub returns-in-Err-clause-keeps : goal.returns-in-Err-clause-keeps
returns-in-Err-clause-keeps c =
    let a = c.args.types.now in
    let s : Contents = c.args.self.now in
    subst (Keeps a a s) (sym c.mark_spent.ensures) (keeps_marked a s s true refl c.requires.open.stands)
