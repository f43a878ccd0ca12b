-- A type that owns nothing is its own instance.
use Rattle.std.proofs.Common.{◌≡◌, ℕ, ◌<◌, ◌≤◌, List, [], ◌∷◌, map, refl, sym, ◌∙◌, ap, subst, true, false, All}
use Rattle.std.specs.List.{IsDistinct}
use Rattle.std.proofs.lemmas.Bool.{false≢true}
use Rattle.std.proofs.lemmas.List.Elements.{All-nil}
use Rattle.wcv_core.specs.Names.{Name, number}
use Rattle.wcv_types.proofs.Unfolding.{head_in}
use Rattle.wcv_types.specs.Arena.{Arena}
use Rattle.wcv_types.specs.ComponentTrees.{resource_path}
use Rattle.wcv_types.specs.FirstPath.{first_path}
use Rattle.wcv_types.specs.Paths.{PathLeadsTo}
use Rattle.wcv_types.specs.Sets.{same_resource}
use Rattle.wcv_types.specs.Standing.{Stands}
use Rattle.wcv_types.specs.Tree.{resource, instance, head, exports, firsts, owned, owned_at, nothing}
use Rattle.wcv_types.specs.Unfold.{tree_at, head_of}
use Rattle.wcv_types.specs.declared.arena.Node.TheVariants as n
use Rattle.wcv_types.specs.declared.ids.ComponentInstanceTypeId.{ComponentInstanceTypeId}
use Rattle.wcv_types.specs.declared.ids.Part.TheVariants as p
use Rattle.wcv_types.specs.declared.ids.ResourceId.{ResourceId}
use Rattle.wcv_lower.specs.Given.{names_of, none_given}
use Rattle.wcv_lower.specs.Names.{Names, again}
use Rattle.wcv_lower.specs.NewTypes.{path_or_none}
use Rattle.wcv_types.specs.declared.shapes.ComponentEntityType.TheVariants as entity
use Rattle.wcv_spaces.proofs.StaysAlone.{tree_stays}
use Rattle.wcv_instantiate.specs.Instances.{InstanceMade}
use Rattle.wcv_instantiate.specs.Opening.{Paths, is_empty, owns_none}

empty : (rs : List Name) → is_empty rs ≡ true → rs ≡ []
empty [] e = refl
empty (r ∷ rs) e = absurd (false≢true e)

no_key : IsDistinct same_resource []
unfolding IsDistinct
no_key = tt

pub owns_nothing : (a : Arena) (i : ComponentInstanceTypeId) (rs : Paths) → owns_none (tree_at a (p.Instance i)) ≡ true → rs ≡ [] → Stands a (p.Instance i) → InstanceMade a a i (record { ty = i; resources = rs })
owns_nothing a i rs own e st =
    let none_owned : owned (tree_at a (p.Instance i)) ≡ [] = empty (owned (tree_at a (p.Instance i))) own in
    let top : head (tree_at a (p.Instance i)) ≡ head_of i.index (n.Instance st.0) = head_in a.nodes i.index (n.Instance st.0) st.1 in
    let names : Names = names_of none_given in
    record {
      given_names = λ q. none_given;
      given = λ q. record { resources = tt; identities = tt };
      brought = λ q z. record {
        entity = tree_stays names q (tree_at a (p.Instance i)) (number i.index) (owned_at (head_of i.index (n.Instance st.0))) top (ap owned_at (sym top) ∙ none_owned) z;
        resources = (ap (λ (ns : List Name). map (λ (r : Name). (names.resource (again q r), path_or_none (first_path r (exports (tree_at a (p.Instance i)))))) ns) none_owned ∙ ap (λ (es : Paths). map resource_path es) (sym e)) z;
      };
      stands = st;
      alone = none_owned;
      fresh = subst (λ (es : Paths). All (λ (r : ResourceId × List ℕ). a.resources ≤ r.0.index) es) (sym e) (All-nil (λ (r : ResourceId × List ℕ). a.resources ≤ r.0.index));
      below = subst (λ (es : Paths). All (λ (r : ResourceId × List ℕ). r.0.index < a.resources) es) (sym e) (All-nil (λ (r : ResourceId × List ℕ). r.0.index < a.resources));
      distinct = subst (λ (es : Paths). IsDistinct same_resource (firsts es)) (sym e) no_key;
      lead = subst (λ (es : Paths). All (λ (r : ResourceId × List ℕ). PathLeadsTo r.1 (number r.0.index) (exports (tree_at a (p.Instance i)))) es) (sym e)
          (All-nil (λ (r : ResourceId × List ℕ). PathLeadsTo r.1 (number r.0.index) (exports (tree_at a (p.Instance i)))));
      core = refl;
      same = λ f. (refl, refl, e, λ q. refl);
    }
