-- What start items do to a context: values are marked, and what the function gives joins the values. It is one of the parts of the
-- function's type, and no resource is listed.
use Rattle.std.proofs.Common.{◌≡◌, ℕ, List, [], ◌∷◌, Bool, true, false, not, cond, refl, subst, Option, Some, None, inl, inr}
use Rattle.std.specs.List.{list_all}
use Rattle.std.specs.Option.{option_map}
use Rattle.wcv_core.specs.Names.{Name, Place}
use Rattle.wcv_types.specs.Tree.{Role, here, label, import, export, core_import, core_export, is_nothing, func, sort, node, Parts, none, part}
use Rattle.wcv_types.proofs.Lists.{some-inj}
use Rattle.wcv_lower.specs.Canons.{func_at}
use Rattle.wcv_lower.specs.Checks.{is_none, same_sort}
use Rattle.wcv_lower.specs.Context.{in_funcs, in_values, exporting}
use Rattle.wcv_lower.specs.Marks.{value_at}
use Rattle.wcv_lower.specs.Owned.{AllEntries}
use Rattle.wcv_lower.specs.Start.{result_joins, start_joins, start_step}
use Rattle.wcv_lower.specs.Step.{appends, marks_value, names_start, Step, apply}
use Rattle.wcv_lower.specs.Trees.{Type_tree, Tree_stack, tree_reader, if_given, unlabelled, result}
use Rattle.wcv_lower.proofs.Bringing.{AllBring, brings_one, brings_more}
use Rattle.wcv_growth.proofs.Bare.{PartsOwnNothing}
use Rattle.wcv_growth.proofs.CoreGrowing.{if-some}
use Rattle.wcv_growth.proofs.Growing.{Ready, Does, SameLists, same-does}
use Rattle.wcv_growth.proofs.Known.{mapped-some, all-get, WithinParts, Fine, Any}
use Rattle.wcv_growth.proofs.Marked.{uses-does, uses-tidy}
use Rattle.wcv_growth.proofs.Near.{Near, After, later-fine}
use Rattle.wcv_growth.proofs.Sound.{AreSound}
use Rattle.wcv_growth.proofs.Tidy.{Known, TidyIn, TidyEntry, BringsTidy, brings-known}

-- ## The result of a function

given-some : (t x : Type_tree) → if_given t ≡ Some x → t ≡ x
given-some t x e = go (same_sort is_nothing (sort t)) e
  where
    go : (b : Bool) → cond b None (Some t) ≡ Some x → t ≡ x
    go true k = cc
    go false k = some-inj k

-- it has what each of the parts has
module _ (A : Parts Name Name → Type 0) (Q : Type_tree → Type 0) (each : (k : Role) (t : Type_tree) (ps : Parts Name Name) → A (part k t ps) → Q t × A ps) where
  pub unlabelled-has : (ps : Parts Name Name) (x : Type_tree) → A ps → unlabelled ps ≡ Some x → Q x
  unlabelled-has none x a e = cc
  unlabelled-has (part here t ps) x a e = subst Q (given-some t x e) (each here t ps a).0
  unlabelled-has (part (label l) t ps) x a e = unlabelled-has ps x (each (label l) t ps a).1 e
  unlabelled-has (part (import n) t ps) x a e = unlabelled-has ps x (each (import n) t ps a).1 e
  unlabelled-has (part (export n) t ps) x a e = unlabelled-has ps x (each (export n) t ps a).1 e
  unlabelled-has (part (core_import m n) t ps) x a e = unlabelled-has ps x (each (core_import m n) t ps a).1 e
  unlabelled-has (part (core_export n) t ps) x a e = unlabelled-has ps x (each (core_export n) t ps a).1 e

result-fine : (P : Name → Type 0) (t x : Type_tree) → Fine P t → result t ≡ Some x → Fine P x
result-fine P (node (func i b) ps) x w e = unlabelled-has Parts_fine (Fine P) each ps x ((λ r f. w.0 r (inr (refl, f))), w.1.1) e
  where
    Parts_fine : Parts Name Name → Type 0
    Parts_fine qs = WithinParts P qs × AreSound qs

    each : (k : Role) (t : Type_tree) (qs : Parts Name Name) → Parts_fine (part k t qs) → Fine P t × Parts_fine qs
    each k t qs a = (((λ r f. a.0 r (inl f)), a.1.0), ((λ r f. a.0 r (inr f)), a.1.1))
result-fine P (node h ps) x w e = cc

result-tidy : (g : Known) (t x : Type_tree) → TidyEntry g t → result t ≡ Some x → TidyEntry g x
result-tidy g (node (func i b) ps) x w e = unlabelled-has Parts_tidy (TidyEntry g) each ps x (w.1.0.values, w.1.1) e
  where
    Parts_tidy : Parts Name Name → Type 0
    Parts_tidy qs = PartsOwnNothing qs × TidyIn g qs

    each : (k : Role) (t : Type_tree) (qs : Parts Name Name) → Parts_tidy (part k t qs) → TidyEntry g t × Parts_tidy qs
    each k t qs a = ((a.0.0, a.1.0), (a.0.1, a.1.1))
result-tidy g (node h ps) x w e = cc

-- ## It joins the values

result-brings : (E : Type_tree → Type 0) (o : Option Type_tree) → ((x : Type_tree) → o ≡ Some x → E x) → AllBring E Any (names_start ∷ result_joins o)
result-brings E None w = brings_one E Any names_start tt
result-brings E (Some x) w =
    brings_more E Any names_start (appends in_values x ∷ marks_value false ∷ []) tt
    (brings_more E Any (appends in_values x) (marks_value false ∷ []) (w x refl) (brings_one E Any (marks_value false) tt))

result-same : (o : Option Type_tree) (s : Tree_stack) → SameLists s.top (apply (names_start ∷ result_joins {X = tree_reader} o) s).top
result-same None s = record { imported = refl; defined = refl; imports = refl; exports = refl }
result-same (Some x) s = record { imported = refl; defined = refl; imports = refl; exports = refl }

module _ (s : Tree_stack) (f : ℕ) (args : List ℕ) (x : Step tree_reader) (e : start_step s.top f args ≡ Some x) where
  -- it is the step of a function that is there
  abbrev found : (t : Type_tree) × (func_at s.top f ≡ Some t) × (start_joins args t ≡ x)
  found =
      mapped-some (start_joins args) (func_at s.top f) x
      (if-some (list_all (λ (k : ℕ). not (is_none (value_at s.top k))) args) (option_map (start_joins args) (func_at s.top f)) x e)

  pub start-does : (p : Place) → Ready p s → Does exporting p s x
  start-does p h =
      let t : Type_tree = found.0 in
      let y : Step tree_reader = names_start ∷ result_joins (result t) in
      let w : Fine (Near s) t = all-get (Fine (Near s)) (s.top.space in_funcs) f t (h.fine.0.entries.space in_funcs) found.1 in
      subst (Does exporting p s) found.2
      (uses-does exporting p s args y
      (same-does p s h y (result-brings (Fine (After y s)) (result t) (λ r q. later-fine y s r (result-fine (Near s) t r w q))) (result-same (result t) s)))

  pub start-tidy : (p : Place) (g : Known) → AllEntries (TidyEntry g) s.top → BringsTidy p g x
  start-tidy p g a =
      let t : Type_tree = found.0 in
      let y : Step tree_reader = names_start ∷ result_joins (result t) in
      let w : TidyEntry g t = all-get (TidyEntry g) (s.top.space in_funcs) f t (a.space in_funcs) found.1 in
      subst (BringsTidy p g) found.2
      (uses-tidy p g args y (brings-known p g y (result-brings (TidyEntry g) (result t) (λ r q. result-tidy g t r w q))))
