use Rattle.std.proofs.Common.{◌≡◌, ℕ, List, drop, map, nat_cmp, option_map, take}
use Rattle.std.specs.BTreeMap.{get_by}
use Rattle.std.specs.List.{list_all}
use Rattle.wcv_core.specs.Names.{Name, member, number}
use Rattle.wcv_types.specs.Tree.{firsts}
use Rattle.wcv_types.specs.Unfold.{resource_path}
use Rattle.wcv_counterparts.specs.IdCounterparts.{lands_on}
use Rattle.wcv_counterparts.specs.OwnResources.{going}
use Rattle.wcv_counterparts.proofs.OneToOne.{first_of, is_first}
use Rattle.wcv_counterparts.proofs.own_resources.one_to_one.Given as goal

-- of what those before go to, the map has the first that goes there, and what is left decides
abbrev pub invariant-loop-pair : goal.invariant-loop-pair
invariant-loop-pair l = record {
  seen : (to : Name → Name) (rs : List Name) → map lands_on l.pairs ≡ going to rs →
      (q : ℕ) → option_map number (get_by (λ x. nat_cmp q x) l.firsts) ≡ first_of (λ r. member r (firsts (map resource_path l.skipped))) to (number q) (take l.pair-index rs);
  left : (to : Name → Name) (rs : List Name) → map lands_on l.pairs ≡ going to rs →
      list_all (is_first (λ r. member r (firsts (map resource_path l.skipped))) to rs) rs ≡ list_all (is_first (λ r. member r (firsts (map resource_path l.skipped))) to rs) (drop l.pair-index rs);
}
