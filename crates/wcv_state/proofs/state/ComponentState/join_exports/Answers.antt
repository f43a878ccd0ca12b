use Rattle.std.proofs.Common.{◌++◌, ◌∙◌, refl, sym, ap, subst, true, inl, inr, length}
use Rattle.std.specs.Prelude.{All}
use Rattle.std.proofs.lemmas.Result.{err_from_is_err_and}
use Rattle.wcv_types.specs.Entities.{EntryStands}
use Rattle.wcv_types.specs.Sets.{AllStand}
use Rattle.wcv_types.specs.Unfold.{trees}
use Rattle.wcv_lower.specs.Context.{exporting, unknown}
use Rattle.wcv_lower.specs.Owned.{IsLed}
use Rattle.wcv_spaces.specs.Bringing.{Paths, AreNewIn}
use Rattle.wcv_spaces.specs.Contents.{Contents, names, context_of}
use Rattle.wcv_state.specs.Inside.{contents_of}
use Rattle.wcv_spaces.specs.Looking.{entry_of, IsUnnamedIn}
use Rattle.wcv_spaces.proofs.BroughtPaths.{brought_defined, all_taken, led_more}
use Rattle.wcv_state.proofs.JoinCalls.{has_joined, join_caused, join_unnamed}
use Rattle.wcv_spaces.proofs.JoinedSides.{export_introduced}
use Rattle.wcv_spaces.proofs.Keeping.{keeps_entry, same_imported, same_defined}
use Rattle.wcv_spaces.proofs.Sides.{each_side}
use Rattle.wcv_state.proofs.Sizes.{same_sized, joined_sized}
use Rattle.wcv_state.proofs.state.ComponentState.join_exports.Goals as goal

pub name_entry-requires-clause-stands : goal.name_entry-requires-clause-stands
name_entry-requires-clause-stands c = c.requires.may_join.stands

pub name_entry-requires-clause-sets : goal.name_entry-requires-clause-sets
name_entry-requires-clause-sets c = λ d. subst (λ (z : Contents). AllStand c.args.types.now (names z d)) (sym c.self.view_is) (c.requires.stands.named d)

pub returns-in_err-name_entry-clause-err : goal.returns-in_err-name_entry-clause-err
returns-in_err-name_entry-clause-err c =
    let p = err_from_is_err_and c.from_residual.result c.from_residual.ensures.1 in
    rw (p.1, p.2) (join_unnamed c.args.limited exporting c.args.types.now c.args.self.now (contents_of c.self.inside) c.args.name c.args.new.now c.self.view_is c.args.offset c.in_err-name_entry.field-0.0 c.in_err-name_entry.ensures.err)

pub returns-in_err-name_entry-clause-keeps : goal.returns-in_err-name_entry-clause-keeps
returns-in_err-name_entry-clause-keeps c =
    keeps_entry c.args.types.now true c.args.self.now (contents_of c.self.inside) _ (entry_of c.args.name c.args.new.now.ty) c.self.view_is c.requires.stands c.requires.may_join.stands (inl refl)
    (each_side _ (inl refl) (inl refl)) (λ k. same_imported c.args.types.now (contents_of c.self.inside) k _ _ (entry_of c.args.name c.args.new.now.ty) refl (inl refl)) (λ k. same_defined c.args.types.now (contents_of c.self.inside) k _ refl) (λ k d. (c.in_err-name_entry.ensures.grew.more d, c.in_err-name_entry.ensures.grew.stand d)) (λ k. same_sized (trees c.args.types.now.nodes) (contents_of c.self.inside) _ refl (each_side _ refl refl) k) refl refl refl

pub enter-requires-clause-entity : goal.enter-requires-clause-entity
enter-requires-clause-entity c = c.requires.may_join.stands

pub enter-requires-clause-entries : goal.enter-requires-clause-entries
enter-requires-clause-entries c = subst (λ (z : Contents). All (EntryStands c.args.types.now) z.exports) (sym c.self.view_is) (c.requires.stands.side exporting)

pub enter-requires-clause-unnamed : goal.enter-requires-clause-unnamed
enter-requires-clause-unnamed c = subst (λ (z : Contents). IsUnnamedIn z.exports c.args.new.now.ty) (sym c.self.view_is) c.requires.unnamed

pub returns-in_err-enter-clause-err : goal.returns-in_err-enter-clause-err
returns-in_err-enter-clause-err c =
    let p = err_from_is_err_and c.from_residual-in_err-enter.result c.from_residual-in_err-enter.ensures.1 in
    rw (p.1, p.2) (join_caused c.args.limited exporting c.args.types.now c.args.self.now (contents_of c.self.inside) c.args.name c.args.new.now c.self.view_is c.args.offset c.in_err-enter.field-0.0 c.in_err-enter.ensures.err)

pub returns-in_err-enter-clause-keeps : goal.returns-in_err-enter-clause-keeps
returns-in_err-enter-clause-keeps c =
    rw c.in_err-enter.ensures.types (keeps_entry c.args.types.now true c.args.self.now (contents_of c.self.inside) _ (entry_of c.args.name c.args.new.now.ty) c.self.view_is c.requires.stands c.requires.may_join.stands c.in_err-enter.ensures.kept
    (each_side _ (inl refl) (inl c.in_err-enter.ensures.items)) (λ k. same_imported c.args.types.now (contents_of c.self.inside) k _ _ (entry_of c.args.name c.args.new.now.ty) refl (inl refl)) (λ k. same_defined c.args.types.now (contents_of c.self.inside) k _ refl) (λ k d. (c.in_ok-name_entry.ensures.grew.more d, c.in_ok-name_entry.ensures.grew.stand d)) (λ k. same_sized (trees c.args.types.now.nodes) (contents_of c.self.inside) _ c.in_err-enter.ensures.info (each_side _ refl c.in_err-enter.ensures.items) k) refl refl refl)

pub export_resources-requires : goal.export_resources-requires
export_resources-requires c = subst (λ (z : Contents). AreNewIn z.defined_resources c.args.new.now.resources) (sym c.self.view_is) c.requires.fresh

pub returns-in_err-export_resources-clause-keeps : goal.returns-in_err-export_resources-clause-keeps
returns-in_err-export_resources-clause-keeps c =
    rw c.in_ok-enter.ensures.types (keeps_entry c.args.types.now true c.args.self.now (contents_of c.self.inside) _ (entry_of c.args.name c.args.new.now.ty) c.self.view_is c.requires.stands c.requires.may_join.stands (inr c.in_ok-enter.ensures.joined.spaces)
    (each_side _ (inl refl) (inr c.in_ok-enter.ensures.joined.items)) (λ k. same_imported c.args.types.now (contents_of c.self.inside) k _ _ (entry_of c.args.name c.args.new.now.ty) refl (inl refl)) (λ k. brought_defined c.args.types.now (contents_of c.self.inside) k (entry_of c.args.name c.args.new.now.ty) c.args.new.now.resources c.requires.may_join.resources _ c.in_err-export_resources.ensures.err.0 c.in_err-export_resources.ensures.err.1) (λ k d. (c.in_ok-name_entry.ensures.grew.more d, c.in_ok-name_entry.ensures.grew.stand d)) (λ k. joined_sized (trees c.args.types.now.nodes) (contents_of c.self.inside) (entry_of c.args.name c.args.new.now.ty) exporting _ c.in_ok-enter.ensures.joined.info (each_side _ refl c.in_ok-enter.ensures.joined.items) k) refl refl refl)

pub returns-clause-keeps : goal.returns-clause-keeps
returns-clause-keeps c =
    rw c.in_ok-enter.ensures.types (keeps_entry c.args.types.now true c.args.self.now (contents_of c.self.inside) _ (entry_of c.args.name c.args.new.now.ty) c.self.view_is c.requires.stands c.requires.may_join.stands (inr c.in_ok-enter.ensures.joined.spaces)
    (each_side _ (inl refl) (inr c.in_ok-enter.ensures.joined.items)) (λ k. same_imported c.args.types.now (contents_of c.self.inside) k _ _ (entry_of c.args.name c.args.new.now.ty) refl (inl refl)) (λ k. brought_defined c.args.types.now (contents_of c.self.inside) k (entry_of c.args.name c.args.new.now.ty) c.args.new.now.resources c.requires.may_join.resources _ (length c.args.new.now.resources) (c.in_ok-export_resources.ensures.ok ∙ ap (λ (l : Paths). c.self.inside.defined_resources ++ unknown l) (all_taken c.args.new.now.resources))) (λ k d. (c.in_ok-name_entry.ensures.grew.more d, c.in_ok-name_entry.ensures.grew.stand d)) (λ k. joined_sized (trees c.args.types.now.nodes) (contents_of c.self.inside) (entry_of c.args.name c.args.new.now.ty) exporting _ c.in_ok-enter.ensures.joined.info (each_side _ refl c.in_ok-enter.ensures.joined.items) k) refl refl refl)

pub returns-clause-ok : goal.returns-clause-ok
returns-clause-ok c =
    has_joined c.args.limited exporting c.args.types.now c.args.self.now (contents_of c.self.inside) c.args.name c.args.new.now c.self.view_is _ c.requires.may_join
    (record {
      kinds = refl;
      aliased = refl;
      slots = refl;
      started = refl;
      spaces = c.in_ok-enter.ensures.joined.spaces;
      info = c.in_ok-enter.ensures.joined.info;
      listed = (each_side _ refl c.in_ok-enter.ensures.joined.items);
      imported = refl;
      made = export_introduced c.args.types.now (contents_of c.self.inside) _ c.args.new.now c.in_ok-export_resources.ensures.ok;
      named = c.in_ok-name_entry.ensures.named;
    })
    c.in_ok-name_entry.ensures.ok c.in_ok-enter.ensures.ok refl

pub returns-clause-led : goal.returns-clause-led
returns-clause-led c = λ led. led_more c.args.types.now (contents_of c.self.inside) (entry_of c.args.name c.args.new.now.ty) c.args.new.now.resources _ _ c.in_ok-enter.ensures.joined.items c.in_ok-export_resources.ensures.ok c.requires.may_join.lead (subst (λ (z : Contents). IsLed (context_of c.args.types.now z)) (sym c.self.view_is) led)
