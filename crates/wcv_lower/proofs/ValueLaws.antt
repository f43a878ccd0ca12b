-- Value types under a map of entries; where there is no cause, they are found.
use Rattle.std.proofs.Common.{◌≡◌, ℕ, [], ◌∷◌, ◌++◌, refl, sym, ◌∙◌, ap, subst, Bool, true, false, cond, Some, None}
use Rattle.std.specs.Prelude.{Option, not}
use Rattle.std.specs.Option.{option_map, option_and_then}
use Rattle.std.proofs.lemmas.Bool.{false≢true}
use Rattle.wcv_core.specs.declared.features.WasmFeatures.{WasmFeatures}
use Rattle.wcv_syntax.specs.declared.component_type.ComponentValType.{ComponentValType}
use Rattle.wcv_syntax.specs.declared.component_type.ComponentValType.TheVariants.{Primitive, Ty}
use Rattle.wcv_types.specs.Tree.{Sort, is_value, Role}
use Rattle.wcv_types.proofs.Lists.{some-inj}
use Rattle.wcv_lower.specs.Checks.{Checks, IsFree, if_found, missing, missing_of, same_sort}
use Rattle.wcv_lower.specs.Context.{Context, type_at}
use Rattle.wcv_lower.specs.Mapped.{Map, Commutes, IsKnown, map_context, map_parts}
use Rattle.wcv_lower.specs.Readers.{Reader, Made_parts, sort_of, if_sort}
use Rattle.wcv_lower.specs.Values.{type_of_sort, sort_checks, value_entry, value_checks, Written_parts, option_entry, behind, parts_entries, option_checks, parts_checks}
use Rattle.wcv_lower.proofs.Causes.{free_left, free_right}
use Rattle.wcv_lower.proofs.Mapping.{sorted-mapped, sorted_known, missing_of-mapped, type_at-mapped, type_known}

module _ {X Y : Reader} (m : Map X Y) {Known : X.Entry → Type 0} (law : Commutes m Known) where
  pub of_sort-mapped : (s : Sort) (c : Context X) → IsKnown Known c → (k : ℕ) → type_of_sort s (map_context m c) k ≡ option_map m.entry (type_of_sort s c k)
  of_sort-mapped s c w k = ap (option_and_then (if_sort Y s)) (type_at-mapped m law c k) ∙ sorted-mapped m law s (type_at c k) (type_known m law c w k)

  pub of_sort_known : (s : Sort) (c : Context X) → IsKnown Known c → (k : ℕ) (x : X.Entry) → type_of_sort s c k ≡ Some x → Known x
  of_sort_known s c w k = sorted_known m law s (type_at c k) (type_known m law c w k)

  pub sort_checks-mapped : (s : Sort) (c : Context X) → IsKnown Known c → (k : ℕ) → sort_checks s (map_context m c) k ≡ sort_checks s c k
  sort_checks-mapped s c w k = ap (λ o. missing_of s (option_map (sort_of Y) o)) (type_at-mapped m law c k) ∙ missing_of-mapped m law s (type_at c k) (type_known m law c w k)

  pub value-mapped : (c : Context X) → IsKnown Known c → (v : ComponentValType) → value_entry (map_context m c) v ≡ option_map m.entry (value_entry c v)
  value-mapped c w (Primitive p) = ap Some (law.primitive p)
  value-mapped c w (Ty k) = of_sort-mapped is_value c w k

  pub value_known : (c : Context X) → IsKnown Known c → (v : ComponentValType) (x : X.Entry) → value_entry c v ≡ Some x → Known x
  value_known c w (Primitive p) x e = subst Known (some-inj e) (law.primitive_known p)
  value_known c w (Ty k) x e = of_sort_known is_value c w k x e

  pub option-mapped : (c : Context X) → IsKnown Known c → (o : Option ComponentValType) → option_entry (map_context m c) o ≡ option_map m.entry (option_entry c o)
  option-mapped c w None = ap Some law.left_out
  option-mapped c w (Some v) = value-mapped c w v

  behind-mapped : (r : Role) (o : Option (Made_parts X)) (x : Option X.Entry) →
      option_and_then (behind Y r (option_map (map_parts m.entry) o)) (option_map m.entry x) ≡ option_map (map_parts m.entry) (option_and_then (behind X r o) x)
  behind-mapped r o None = refl
  behind-mapped r None (Some x) = refl
  behind-mapped r (Some ps) (Some x) = refl

  pub parts-mapped : (c : Context X) → IsKnown Known c → (ps : Written_parts) → parts_entries (map_context m c) ps ≡ option_map (map_parts m.entry) (parts_entries c ps)
  parts-mapped c w [] = refl
  parts-mapped c w (p ∷ ps) = (λ j. option_and_then (behind Y p.0 (parts-mapped c w ps j)) (option-mapped c w p.1 j)) ∙ behind-mapped p.0 (parts_entries c ps) (option_entry c p.1)

  pub value_checks-mapped : (fs : WasmFeatures) (c : Context X) → IsKnown Known c → (v : ComponentValType) → value_checks fs (map_context m c) v ≡ value_checks fs c v
  value_checks-mapped fs c w (Primitive p) = refl
  value_checks-mapped fs c w (Ty k) = sort_checks-mapped is_value c w k

  pub option_checks-mapped : (fs : WasmFeatures) (c : Context X) → IsKnown Known c → (o : Option ComponentValType) → option_checks fs (map_context m c) o ≡ option_checks fs c o
  option_checks-mapped fs c w None = refl
  option_checks-mapped fs c w (Some v) = value_checks-mapped fs c w v

  pub parts_checks-mapped : (fs : WasmFeatures) (c : Context X) → IsKnown Known c → (ps : Written_parts) → parts_checks fs (map_context m c) ps ≡ parts_checks fs c ps
  parts_checks-mapped fs c w [] = refl
  parts_checks-mapped fs c w (p ∷ ps) = λ j. option_checks-mapped fs c w p.1 j ++ parts_checks-mapped fs c w ps j

-- checks of what was found
pub found-same : {A B : Type 0} (f : A → B) (u : B → Checks) (v : A → Checks) → ((x : A) → u (f x) ≡ v x) → (o : Option A) (p : Option B) → p ≡ option_map f o → if_found u p ≡ if_found v o
found-same f u v h o p e = ap (if_found u) e ∙ go o
  where
    go : (o : Option _) → if_found u (option_map f o) ≡ if_found v o
    go None = refl
    go (Some x) = h x

-- ## Without a cause

pub mapped : {A B : Type 0} (f : A → B) (o : Option A) → (x : A) × (o ≡ Some x) → (y : B) × (option_map f o ≡ Some y)
mapped f o x = (f x.0, ap (option_map f) x.1)

pub found_there : {A : Type 0} (o : Option A) → IsFree (missing o) → (x : A) × (o ≡ Some x)
found_there None h = absurd (false≢true (sym h.0))
found_there (Some x) h = (x, refl)

pub not-false : (b : Bool) → not b ≡ false → b ≡ true
not-false true e = refl
not-false false e = absurd (false≢true (sym e))

module _ (X : Reader) where
  pub found_of : (s : Sort) (o : Option X.Entry) → IsFree (missing_of s (option_map (sort_of X) o)) → (x : X.Entry) × (option_and_then (if_sort X s) o ≡ Some x)
  found_of s None h = absurd (false≢true (sym h.0))
  found_of s (Some x) h = (x, ap (λ (b : Bool). cond b (Some x) None) (not-false (same_sort s (sort_of X x)) h.1.0))

  pub value_there : (fs : WasmFeatures) (c : Context X) (v : ComponentValType) → IsFree (value_checks fs c v) → (x : X.Entry) × (value_entry c v ≡ Some x)
  value_there fs c (Primitive p) h = (X.primitive p, refl)
  value_there fs c (Ty k) h = found_of is_value (type_at c k) h

  option_there : (fs : WasmFeatures) (c : Context X) (o : Option ComponentValType) → IsFree (option_checks fs c o) → (x : X.Entry) × (option_entry c o ≡ Some x)
  option_there fs c None h = (X.left_out, refl)
  option_there fs c (Some v) h = value_there fs c v h

  pub parts_there : (fs : WasmFeatures) (c : Context X) (ps : Written_parts) → IsFree (parts_checks fs c ps) → (qs : Made_parts X) × (parts_entries c ps ≡ Some qs)
  parts_there fs c [] h = ([], refl)
  parts_there fs c (p ∷ ps) h =
      let x = option_there fs c p.1 (free_left (option_checks fs c p.1) (parts_checks fs c ps) h) in
      let qs = parts_there fs c ps (free_right (option_checks fs c p.1) (parts_checks fs c ps) h) in
      ((p.0, x.0) ∷ qs.0, (λ j. option_and_then (behind X p.0 (qs.1 j)) (x.1 j)))
