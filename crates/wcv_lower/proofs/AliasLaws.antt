-- Aliases: what they do and their causes under a map of entries, and what they do where there is no cause.
use Rattle.std.proofs.Common.{◌≡◌, ℕ, zero, suc, List, [], ◌∷◌, ◌++◌, refl, sym, ◌∙◌, ap, Bool, true, false, cond, not, Some, None}
use Rattle.std.specs.Prelude.{◌+◌, nat_lt, slice_get, Option, bytes_eq, ◌&&◌}
use Rattle.std.specs.Option.{option_map, option_and_then}
use Rattle.std.proofs.lemmas.Bool.{false≢true}
use Rattle.std.proofs.lemmas.List.{map-append}
use Rattle.std.proofs.lemmas.Option.{slice_get-map}
use Rattle.wcv_core.specs.declared.error.ErrorKind.TheVariants as error
use Rattle.wcv_syntax.specs.declared.instance.ComponentAlias.{ComponentAlias}
use Rattle.wcv_syntax.specs.declared.instance.ComponentAlias.TheVariants as alias
use Rattle.wcv_syntax.specs.declared.instance.ComponentExternalKind.{ComponentExternalKind}
use Rattle.wcv_syntax.specs.declared.instance.ComponentOuterAliasKind.{ComponentOuterAliasKind}
use Rattle.wcv_syntax.specs.declared.instance.ComponentOuterAliasKind.TheVariants as outer
use Rattle.wcv_types.specs.Tree.{Text, Extern_name, Sort}
use Rattle.wcv_lower.specs.Aliases.{sort_named, is_admitted, instance_at, export_of, joining, export_alias_step, named_checks, export_alias_checks, outer_items, outer_at, outer_joins, is_charged, is_concrete_one, concrete_at, aliased_one, aliased_at, outer_room, charged, escapes, outer_alias_step, outer_admitted, outer_alias_checks, alias_step, alias_checks}
use Rattle.wcv_core.specs.Limits.{max_size}
use Rattle.wcv_core.specs.declared.features.WasmFeatures.{WasmFeatures}
use Rattle.wcv_lower.specs.Checks.{Checks, IsFree, if_found, is_none, missing, is_other, no_room, same_sort}
use Rattle.wcv_lower.specs.Context.{Context, Stack, in_types, in_instances, in_components, core_types, core_modules, is_concrete, at_distance, counts}
use Rattle.wcv_lower.specs.Values.{kind_checks}
use Rattle.wcv_lower.specs.Mapped.{Map, Commutes, IsKnown, map_entries, map_context, map_stack, map_change, map_step}
use Rattle.wcv_lower.specs.Readers.{Reader, sort_of, if_sort, first_named}
use Rattle.wcv_lower.specs.Step.{Step, charges}
use Rattle.wcv_lower.proofs.Causes.{free_left, free_right}
use Rattle.wcv_lower.proofs.CoreInstanceLaws.{core_alias_step-mapped, core_alias_checks-mapped, some_there, core_alias_does}
use Rattle.wcv_lower.proofs.Mapping.{mapped-square, missing-mapped, joining-mapped, get-mapped, sorts-mapped, sorted-mapped, sorted_known, counts-mapped}
use Rattle.wcv_lower.proofs.EndingLaws.{none-mapped}
use Rattle.wcv_lower.proofs.ValueLaws.{mapped, not-false}

first_named-mapped : {E F : Type 0} (f : E → F) (n : Text) (es : List (Extern_name × E)) → first_named n (map_entries f es) ≡ option_map f (first_named n es)
first_named-mapped f n [] = refl
first_named-mapped f n (e ∷ es) = ap (λ o. cond (bytes_eq n e.0.name) (Some (f e.1)) o) (first_named-mapped f n es) ∙ go (bytes_eq n e.0.name)
  where
    go : (b : Bool) → cond b (Some (f e.1)) (option_map f (first_named n es)) ≡ option_map f (cond b (Some e.1) (first_named n es))
    go true = refl
    go false = refl

module _ {X Y : Reader} (m : Map X Y) {Known : X.Entry → Type 0} (law : Commutes m Known) where
  -- ## An instance's export

  export_of-mapped : (n : Text) (x : X.Entry) → Known x → export_of Y n (m.entry x) ≡ option_map m.entry (export_of X n x)
  export_of-mapped n x h = ap (first_named n) (law.exports x h) ∙ first_named-mapped m.entry n (X.exports x)

  named_checks-mapped : (s : Sort) (o : Option X.Entry) → ((x : X.Entry) → o ≡ Some x → Known x) → named_checks Y s (option_map m.entry o) ≡ named_checks X s o
  named_checks-mapped s o h = λ j. (error.UnknownExport, none-mapped m.entry o j) ∷ (error.WrongSort, is_other s (sorts-mapped m law o h j)) ∷ []

  found-mapped : (s : Sort) (n : Text) (o : Option X.Entry) → ((x : X.Entry) → o ≡ Some x → Known x) →
      if_found (λ x. named_checks Y s (export_of Y n x)) (option_map m.entry o) ≡ if_found (λ x. named_checks X s (export_of X n x)) o
  found-mapped s n None h = refl
  found-mapped s n (Some x) h = ap (named_checks Y s) (export_of-mapped n x (h x refl)) ∙ named_checks-mapped s (export_of X n x) (λ y e. law.export_known x (h x refl) n y e)

  exports-mapped : (n : Text) (o : Option X.Entry) → ((x : X.Entry) → o ≡ Some x → Known x) → option_and_then (export_of Y n) (option_map m.entry o) ≡ option_map m.entry (option_and_then (export_of X n) o)
  exports-mapped n None h = refl
  exports-mapped n (Some x) h = export_of-mapped n x (h x refl)

  exports_known : (n : Text) (o : Option X.Entry) → ((x : X.Entry) → o ≡ Some x → Known x) → (y : X.Entry) → option_and_then (export_of X n) o ≡ Some y → Known y
  exports_known n None h y e = cc
  exports_known n (Some x) h y e = law.export_known x (h x refl) n y e

  joined-mapped : (o : Option X.Entry) → ((x : X.Entry) → o ≡ Some x → Known x) → option_map joining (option_map m.entry o) ≡ option_map (map_step m) (option_map joining o)
  joined-mapped None h = refl
  joined-mapped (Some x) h = ap Some (joining-mapped m law false x (h x refl))

  export_alias_step-mapped : (c : Context X) → IsKnown Known c → (w : ComponentExternalKind) (i : ℕ) (n : Text) → export_alias_step (map_context m c) w i n ≡ option_map (map_step m) (export_alias_step c w i n)
  export_alias_step-mapped c h w i n =
      let o : Option X.Entry = instance_at c i in
      let p : Option X.Entry = option_and_then (export_of X n) o in
      ap (λ p. option_map joining (option_and_then (if_sort Y (sort_named w)) (option_and_then (export_of Y n) p))) (get-mapped m law (c.space in_instances) i) ∙
      ap (λ p. option_map joining (option_and_then (if_sort Y (sort_named w)) p)) (exports-mapped n o (h.space in_instances i)) ∙
      ap (option_map joining) (sorted-mapped m law (sort_named w) p (exports_known n o (h.space in_instances i))) ∙
      joined-mapped (option_and_then (if_sort X (sort_named w)) p) (sorted_known m law (sort_named w) p (exports_known n o (h.space in_instances i)))

  export_alias_checks-mapped : (c : Context X) → IsKnown Known c → (w : ComponentExternalKind) (i : ℕ) (n : Text) → export_alias_checks (map_context m c) w i n ≡ export_alias_checks c w i n
  export_alias_checks-mapped c h w i n =
      let found : if_found (λ x. named_checks Y (sort_named w) (export_of Y n x)) (instance_at (map_context m c) i) ≡ if_found (λ x. named_checks X (sort_named w) (export_of X n x)) (instance_at c i) =
      ap (if_found (λ x. named_checks Y (sort_named w) (export_of Y n x))) (get-mapped m law (c.space in_instances) i) ∙ found-mapped (sort_named w) n (instance_at c i) (h.space in_instances i) in
      let looked : missing (instance_at (map_context m c) i) ≡ missing (instance_at c i) = ap missing (get-mapped m law (c.space in_instances) i) ∙ missing-mapped m.entry (instance_at c i) in
      λ j. (error.AliasKind, not (is_concrete c.kind) && not (is_admitted w)) ∷ (looked j ++ (found j ++ no_room (counts-mapped m law c j) (sort_named w)))

  -- ## What stands further out

  distance-mapped : (n : ℕ) (s : Stack X) → at_distance n (map_stack m s) ≡ option_map (map_context m) (at_distance n s)
  distance-mapped n s = slice_get-map (map_context m) (s.top ∷ s.outer) n

  items-mapped : (w : ComponentOuterAliasKind) (i : ℕ) (o : Option (Context X)) →
      option_and_then (λ c. slice_get (outer_items w c) i) (option_map (map_context m) o) ≡ option_map m.entry (option_and_then (λ c. slice_get (outer_items w c) i) o)
  items-mapped w i None = refl
  items-mapped outer.CoreModule i (Some c) = get-mapped m law (c.core core_modules) i
  items-mapped outer.CoreType i (Some c) = get-mapped m law (c.core core_types) i
  items-mapped outer.Ty i (Some c) = get-mapped m law (c.space in_types) i
  items-mapped outer.Component i (Some c) = get-mapped m law (c.space in_components) i

  outer_at-mapped : (s : Stack X) (w : ComponentOuterAliasKind) (n i : ℕ) → outer_at (map_stack m s) w n i ≡ option_map m.entry (outer_at s w n i)
  outer_at-mapped s w n i = ap (option_and_then (λ c. slice_get (outer_items w c) i)) (distance-mapped n s) ∙ items-mapped w i (at_distance n s)

  concrete-mapped : (n : ℕ) (s : Stack X) → concrete_at n (map_stack m s) ≡ concrete_at n s
  concrete-mapped n s = ap is_concrete_one (distance-mapped n s) ∙ go (at_distance n s)
    where
      go : (o : Option (Context X)) → is_concrete_one (option_map (map_context m) o) ≡ is_concrete_one o
      go None = refl
      go (Some c) = refl

  aliased-mapped : (n : ℕ) (s : Stack X) → aliased_at n (map_stack m s) ≡ aliased_at n s
  aliased-mapped n s = ap aliased_one (distance-mapped n s) ∙ go (at_distance n s)
    where
      go : (o : Option (Context X)) → aliased_one (option_map (map_context m) o) ≡ aliased_one o
      go None = refl
      go (Some c) = refl

  outer_joins-mapped : (w : ComponentOuterAliasKind) (x : X.Entry) → outer_joins {X = Y} w (m.entry x) ≡ map_step m (outer_joins {X = X} w x)
  outer_joins-mapped outer.CoreModule x = refl
  outer_joins-mapped outer.CoreType x = refl
  outer_joins-mapped outer.Ty x = refl
  outer_joins-mapped outer.Component x = refl

  charged-mapped : (s : Stack X) (w : ComponentOuterAliasKind) (n : ℕ) (x : X.Entry) → charged (map_stack m s) w n (m.entry x) ≡ map_step m (charged s w n x)
  charged-mapped s w zero x = refl
  charged-mapped s w (suc n) x =
      (λ j. cond (is_charged w && concrete-mapped n s j) (charges n (law.size x j) ∷ []) []) ∙ go (is_charged w && concrete_at n s)
    where
      go : (b : Bool) → cond {A = Step Y} b (charges n (X.size x) ∷ []) [] ≡ map_step m (cond b (charges n (X.size x) ∷ []) [])
      go true = refl
      go false = refl

  outer_step-mapped : (s : Stack X) (w : ComponentOuterAliasKind) (n i : ℕ) → outer_alias_step (map_stack m s) w n i ≡ option_map (map_step m) (outer_alias_step s w n i)
  outer_step-mapped s w n i =
      ap (option_map (λ x. charged (map_stack m s) w n x ++ outer_joins w x)) (outer_at-mapped s w n i) ∙
      mapped-square m.entry (λ x. charged (map_stack m s) w n x ++ outer_joins w x) (λ x. charged s w n x ++ outer_joins w x) (map_step m) go (outer_at s w n i)
    where
      go : (x : X.Entry) → charged (map_stack m s) w n (m.entry x) ++ outer_joins w (m.entry x) ≡ map_step m (charged s w n x ++ outer_joins w x)
      go x = (λ j. charged-mapped s w n x j ++ outer_joins-mapped w x j) ∙ sym (map-append (map_change m) (charged s w n x) (outer_joins w x))

  escapes-mapped : (s : Stack X) (w : ComponentOuterAliasKind) (n : ℕ) (x : X.Entry) → escapes (map_stack m s) w n (m.entry x) ≡ escapes s w n x
  escapes-mapped s w zero x = refl
  escapes-mapped s w (suc n) x = λ j.
      (error.ResourceScope, is_charged w && (concrete-mapped n s j && law.has_free x j))
      ∷ (error.Limit, is_charged w && (concrete-mapped n s j && nat_lt max_size (aliased-mapped n s j + law.size x j))) ∷ []

  outer_checks-mapped : (s : Stack X) (w : ComponentOuterAliasKind) (n i : ℕ) → outer_alias_checks (map_stack m s) w n i ≡ outer_alias_checks s w n i
  outer_checks-mapped s w n i =
      let looked : is_none (outer_at (map_stack m s) w n i) ≡ is_none (outer_at s w n i) = ap is_none (outer_at-mapped s w n i) ∙ none-mapped m.entry (outer_at s w n i) in
      let found : if_found (escapes (map_stack m s) w n) (outer_at (map_stack m s) w n i) ≡ if_found (escapes s w n) (outer_at s w n i) =
      ap (if_found (escapes (map_stack m s) w n)) (outer_at-mapped s w n i) ∙ go (outer_at s w n i) in
      λ j. (error.AliasKind, not (is_concrete s.top.kind) && not (outer_admitted w)) ∷ (error.OutOfBounds, looked j) ∷ (found j ++ outer_room w (counts-mapped m law s.top j))
    where
      go : (o : Option X.Entry) → if_found (escapes (map_stack m s) w n) (option_map m.entry o) ≡ if_found (escapes s w n) o
      go None = refl
      go (Some x) = escapes-mapped s w n x

  -- ## Items

  pub alias_step-mapped : (s : Stack X) → IsKnown Known s.top → (a : ComponentAlias) → alias_step (map_stack m s) a ≡ option_map (map_step m) (alias_step s a)
  alias_step-mapped s h (alias.InstanceExport w i n) = export_alias_step-mapped s.top h w i n
  alias_step-mapped s h (alias.CoreInstanceExport w i n) = core_alias_step-mapped m law s.top w i n
  alias_step-mapped s h (alias.Outer w n i) = outer_step-mapped s w n i

  pub alias_checks-mapped : (fs : WasmFeatures) (s : Stack X) → IsKnown Known s.top → (a : ComponentAlias) → alias_checks fs (map_stack m s) a ≡ alias_checks fs s a
  alias_checks-mapped fs s h (alias.InstanceExport w i n) = ap (λ (cs : Checks). kind_checks fs w ++ cs) (export_alias_checks-mapped s.top h w i n)
  alias_checks-mapped fs s h (alias.CoreInstanceExport w i n) = core_alias_checks-mapped m law fs s.top w i n
  alias_checks-mapped fs s h (alias.Outer w n i) = outer_checks-mapped s w n i

-- ## Without a cause

module _ (X : Reader) where
  sorted_there : (s : Sort) (o : Option X.Entry) → (is_none o ≡ false) × (is_other s (option_map (sort_of X) o) ≡ false) → (x : X.Entry) × (option_and_then (if_sort X s) o ≡ Some x)
  sorted_there s None h = absurd (false≢true (sym h.0))
  sorted_there s (Some x) h = (x, ap (λ (b : Bool). cond b (Some x) None) (not-false (same_sort s (sort_of X x)) h.1))

  export_there : (s : Sort) (n : Text) (o : Option X.Entry) → IsFree (missing o) → IsFree (if_found (λ x. named_checks X s (export_of X n x)) o) →
      (x : X.Entry) × (option_and_then (if_sort X s) (option_and_then (export_of X n) o) ≡ Some x)
  export_there s n None h k = absurd (false≢true (sym h.0))
  export_there s n (Some x) h k = sorted_there s (export_of X n x) (k.0, k.1.0)

  pub alias_does : (fs : WasmFeatures) (s : Stack X) (a : ComponentAlias) → IsFree (alias_checks fs s a) → (p : Step X) × (alias_step s a ≡ Some p)
  alias_does fs s (alias.InstanceExport w i n) h =
      let o : Option X.Entry = instance_at s.top i in
      let found : Checks = if_found (λ x. named_checks X (sort_named w) (export_of X n x)) o in
      let room : Checks = no_room (counts s.top) (sort_named w) in
      let g = free_right (kind_checks fs w) (export_alias_checks s.top w i n) h in
      mapped joining (option_and_then (if_sort X (sort_named w)) (option_and_then (export_of X n) o))
      (export_there (sort_named w) n o (free_left (missing o) (found ++ room) g.1) (free_left found room (free_right (missing o) (found ++ room) g.1)))
  alias_does fs s (alias.CoreInstanceExport w i n) h = core_alias_does X fs s.top w i n h
  alias_does fs s (alias.Outer w n i) h = mapped (λ x. charged s w n x ++ outer_joins w x) (outer_at s w n i) (some_there (outer_at s w n i) h.1.0)
