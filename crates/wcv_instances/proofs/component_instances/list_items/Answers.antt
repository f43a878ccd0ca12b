use Rattle.std.proofs.Common.{◌≡◌, ◌∙◌, arith, length, refl, sym, subst, Some}
use Rattle.std.specs.Prelude.{slice_get, All}
use Rattle.std.proofs.lemmas.Option.{slice_get_read}
use Rattle.std.proofs.lemmas.Result.{err_from_is_err_and}
use Rattle.wcv_core.specs.Checks.{IsFree}
use Rattle.wcv_types.specs.Arena.{Arena}
use Rattle.wcv_types.specs.Entities.{entity_tree, entry_trees, EntryStands}
use Rattle.wcv_types.specs.Unfold.{trees}
use Rattle.wcv_names.specs.Externs.{extern_checks, with_entry}
use Rattle.wcv_names.specs.ResourceNames.{Named_ids, names_of}
use Rattle.wcv_lower.specs.Entries.{extern_name}
use Rattle.wcv_spaces.specs.Promises.{MemoryOrCausedBy}
use Rattle.wcv_instances.proofs.Listing.{listed_stand, listing_caused, listing_next}
use Rattle.wcv_instances.proofs.component_instances.list_items.Goals as goal

pub validate_extern-requires-clause-items : goal.validate_extern-requires-clause-items
validate_extern-requires-clause-items c =
    subst (λ (a : Arena). All (EntryStands a) c.loop-k.items) (sym c.loop-k.invariant.types)
    (listed_stand c.args.types.now c.args.features.now c.args.found.now c.loop-k.k c.loop-k.items c.loop-k.keys c.loop-k.info c.loop-k.invariant.listing c.requires)

pub returns-in_err-validate_extern-clause-err : goal.returns-in_err-validate_extern-clause-err
returns-in_err-validate_extern-clause-err c =
    let x = c.index-found-k.result in
    let at : slice_get c.args.found.now c.loop-k.k ≡ Some x = slice_get_read c.args.found.now (length c.args.found.now) c.loop-k.k x refl (omega arith) c.index-found-k.is in
    let q = err_from_is_err_and c.from_residual.result c.from_residual.ensures.1 in
    rw (q.1, q.2) (listing_caused c.args.types.now c.args.features.now c.args.found.now c.loop-k.k x c.loop-k.items c.loop-k.keys c.loop-k.info at c.loop-k.invariant.listing c.args.offset c.in_err-validate_extern.field-0.0
    (subst (λ (n : Named_ids). MemoryOrCausedBy (extern_checks (names_of n) c.args.features.now (entry_trees (trees c.args.types.now.nodes) c.loop-k.items) c.loop-k.info (extern_name x.0) (entity_tree (trees c.args.types.now.nodes) x.1)) c.args.offset c.in_err-validate_extern.field-0.0) c.new-names.ensures
    (subst (λ (a : Arena). MemoryOrCausedBy (extern_checks (names_of c.new-names.result) c.args.features.now (entry_trees (trees a.nodes) c.loop-k.items) c.loop-k.info (extern_name x.0) (entity_tree (trees a.nodes) x.1)) c.args.offset c.in_err-validate_extern.field-0.0) c.loop-k.invariant.types c.in_err-validate_extern.ensures.err)))

pub loop-k-preserved : goal.loop-k-preserved
loop-k-preserved c =
    let x = c.index-found-k.result in
    let at : slice_get c.args.found.now c.loop-k.k ≡ Some x = slice_get_read c.args.found.now (length c.args.found.now) c.loop-k.k x refl (omega arith) c.index-found-k.is in
    record {
      listing = listing_next c.args.types.now c.args.features.now c.args.found.now c.loop-k.k x c.loop-k.items c.loop-k.keys c.loop-k.info at c.loop-k.invariant.listing c.validate_extern.new.items c.validate_extern.new.kind_names c.validate_extern.new.info
          (subst (λ (n : Named_ids). IsFree (extern_checks (names_of n) c.args.features.now (entry_trees (trees c.args.types.now.nodes) c.loop-k.items) c.loop-k.info (extern_name x.0) (entity_tree (trees c.args.types.now.nodes) x.1))) c.new-names.ensures
          (subst (λ (a : Arena). IsFree (extern_checks (names_of c.new-names.result) c.args.features.now (entry_trees (trees a.nodes) c.loop-k.items) c.loop-k.info (extern_name x.0) (entity_tree (trees a.nodes) x.1))) c.loop-k.invariant.types c.in_ok-validate_extern.ensures.ok))
          c.in_ok-validate_extern.ensures.joined c.in_ok-validate_extern.ensures.keys
          (subst (λ (a : Arena). c.validate_extern.new.info ≡ with_entry c.loop-k.info (entity_tree (trees a.nodes) x.1)) c.loop-k.invariant.types c.in_ok-validate_extern.ensures.info);
      types = c.validate_extern.ensures.types ∙ c.loop-k.invariant.types;
    }
