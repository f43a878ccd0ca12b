use Rattle.std.proofs.Common.{refl, subst, sym, true}
use Rattle.wcv_types.proofs.Grown.{extends_refl}
use Rattle.wcv_spaces.specs.Promises.{Keeps}
use Rattle.wcv_state.proofs.CoreAliases.{alias_grew}
use Rattle.wcv_spaces.proofs.CoreItems.{item_keeps}
use Rattle.wcv_spaces.proofs.Keeping.{keeps_grown, keeps_marked}
use Rattle.wcv_state.proofs.state.ComponentState.add_core_alias.Goals as goal

pub returns-in_err-item-clause-keeps : goal.returns-in_err-item-clause-keeps
returns-in_err-item-clause-keeps c = keeps_grown c.args.types.now c.args.types.now c.args.self.now (extends_refl c.args.types.now) c.requires.stands

pub returns-in_err-push_core_item-clause-keeps : goal.returns-in_err-push_core_item-clause-keeps
returns-in_err-push_core_item-clause-keeps c =
    subst (Keeps c.args.types.now c.args.types.now c.args.self.now) (sym c.in_err-push_core_item.ensures.err) (keeps_marked c.args.types.now c.args.self.now c.args.self.now true refl c.requires.stands)

pub returns-clause-ok : goal.returns-clause-ok
returns-clause-ok c =
    alias_grew c.args.types.now c.args.self.now c.push_core_item.new.self c.requires.stands c.requires.live c.args.kind c.args.index c.args.name c.in_ok-item.item c.in_ok-item.ensures.ok c.in_ok-push_core_item.ensures.ok c.in_ok-item.ensures.free

pub returns-clause-keeps : goal.returns-clause-keeps
returns-clause-keeps c =
    subst (Keeps c.args.types.now c.args.types.now c.args.self.now) (sym c.in_ok-push_core_item.ensures.ok) (item_keeps c.args.types.now c.args.self.now c.requires.stands c.in_ok-item.item c.in_ok-item.ensures.ok.within)
