use Rattle.std.proofs.Common.{arith, ◌≡◌, ℕ, List, length, map, ◌++◌, sym, ◌∙◌, subst, inl, inr, refl, All}
use Rattle.std.specs.List.{range_with_len}
use Rattle.wcv_core.specs.Checks.{Checks, IsFree, MemoryOrCausedBy}
use Rattle.wcv_core.specs.CoreForm.{Group, sub_form, group_form}
use Rattle.wcv_core.specs.CoreGroups.{total}
use Rattle.wcv_core.specs.CoreTable.{with_group}
use Rattle.wcv_core.specs.CoreWritten.{Core_entry, sub_entry, IsKnown}
use Rattle.wcv_core.proofs.Ranges.{known_more, total_with}
use Rattle.wcv_core.specs.CoreJoining.{group_ids, grown, with_types, IsBegun}
use Rattle.wcv_core.proofs.Joining.{some_grown, some_checks}
use Rattle.wcv_core.proofs.Rowing.{length-map}
use Rattle.wcv_core.proofs.canonical.intern_into.Goals as goal

pub returns-in-Err-clause-cause : goal.returns-in-Err-clause-cause
returns-in-Err-clause-cause g c =
    subst (λ (cs : Checks). MemoryOrCausedBy cs c.args.offset c.in-Err.err) (some_checks c.args.core.now (group_form c.args.closed) c.requires.closed.some) c.in-Err.ensures.cause

pub returns-in-Err-clause-known : goal.returns-in-Err-clause-known
returns-in-Err-clause-known g c =
    subst (λ (hs : List Group). All (IsKnown (total hs)) (g.G.InternRecGroup.entries c.args.group.now)) (sym c.in-Err.ensures.err) c.requires.known

pub returns-in-Err-clause-err : goal.returns-in-Err-clause-err
returns-in-Err-clause-err g c = inl (refl, c.in-Err.ensures.err)

pub add_ids-requires-clause-known : goal.add_ids-requires-clause-known
add_ids-requires-clause-known g c =
    let es : List Core_entry = g.G.InternRecGroup.entries c.args.group.now in
    let gs : List Group = c.args.core.now in
    subst (λ (hs : List Group). All (IsKnown (total hs)) es) (sym c.in-Ok.ensures.groups) (known_more (total gs) (total (with_group gs (group_form c.args.closed))) es (total_with gs (group_form c.args.closed)) c.requires.known)

pub returns-in-Ok-add_ids-clause-free : goal.returns-in-Ok-add_ids-clause-free
returns-in-Ok-add_ids-clause-free g c = subst IsFree (some_checks c.args.core.now (group_form c.args.closed) c.requires.closed.some) c.in-Ok.ensures.free

pub returns-in-Ok-add_ids-clause-table : goal.returns-in-Ok-add_ids-clause-table
returns-in-Ok-add_ids-clause-table g c = c.in-Ok.ensures.groups ∙ sym (some_grown c.args.core.now (group_form c.args.closed) c.requires.closed.some)

pub returns-in-Ok-add_ids-clause-group : goal.returns-in-Ok-add_ids-clause-group
returns-in-Ok-add_ids-clause-group g c =
    let x : Group = group_form c.args.closed in
    let m : length x ≡ length c.args.closed.types.items = length-map sub_form c.args.closed.types.items in
    let l : c.len-count.result ≡ length x = omega (arith, c.len-count.ensures) in
    c.in-Ok-add_ids.ensures.group ∙ (λ j. with_types g.G.InternRecGroup.with_type c.args.group.now (range_with_len (c.in-Ok.ensures.id j) (l j)))

pub returns-in-Ok-add_ids-clause-entries : goal.returns-in-Ok-add_ids-clause-entries
returns-in-Ok-add_ids-clause-entries g c =
    let x : Group = group_form c.args.closed in
    let m : length x ≡ length c.args.closed.types.items = length-map sub_form c.args.closed.types.items in
    let l : c.len-count.result ≡ length x = omega (arith, c.len-count.ensures) in
    c.in-Ok-add_ids.ensures.entries ∙ (λ j. g.G.InternRecGroup.entries c.args.group.now ++ map sub_entry (range_with_len (c.in-Ok.ensures.id j) (l j)))

pub returns-in-Err-add_ids-clause-cause : goal.returns-in-Err-add_ids-clause-cause
returns-in-Err-add_ids-clause-cause g c = inl c.from.ensures

pub returns-in-Err-add_ids-clause-err : goal.returns-in-Err-add_ids-clause-err
returns-in-Err-add_ids-clause-err g c =
    let x : Group = group_form c.args.closed in
    let m : length x ≡ length c.args.closed.types.items = length-map sub_form c.args.closed.types.items in
    let l : c.len-count.result ≡ length x = omega (arith, c.len-count.ensures) in
    let table : c.intern_checked.new.self ≡ grown c.args.core.now x = c.in-Ok.ensures.groups ∙ sym (some_grown c.args.core.now x c.requires.closed.some) in
    let begun : IsBegun g.G.InternRecGroup.with_type g.G.InternRecGroup.failed c.args.group.now (group_ids c.args.core.now x) c.add_ids.new.group =
    subst (λ (is : List ℕ). IsBegun g.G.InternRecGroup.with_type g.G.InternRecGroup.failed c.args.group.now is c.add_ids.new.group) (λ j. range_with_len (c.in-Ok.ensures.id j) (l j)) c.in-Err-add_ids.ensures.err in
    inr (c.from.ensures, (table, begun))
