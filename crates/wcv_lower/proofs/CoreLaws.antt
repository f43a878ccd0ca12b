-- Core types and core modules under a map of entries; where there is no cause, they do something.
use Rattle.std.proofs.Common.{◌≡◌, ℕ, List, [], ◌∷◌, ◌++◌, map, length, refl, ◌∙◌, ap, Bool, true, false, cond, Some, None}
use Rattle.std.specs.Prelude.{Option}
use Rattle.std.specs.Option.{option_map}
use Rattle.wcv_core.specs.Limits.{max_instances}
use Rattle.wcv_core.specs.CoreForm.{Group}
use Rattle.wcv_core.specs.CoreJoining.{group_checks, group_ids, grown}
use Rattle.wcv_core.specs.CoreWritten.{Core_entry, closed_group}
use Rattle.wcv_core.specs.declared.features.WasmFeatures.{WasmFeatures}
use Rattle.wcv_syntax.specs.Model.{Module_decl, Core_type_form, core_rec, core_module_type}
use Rattle.wcv_syntax.specs.ModuleTypes.{Made, empty_module, module_checks, module_left}
use Rattle.wcv_lower.specs.Checks.{IsFree, no_type_room, no_core_type_room, full}
use Rattle.wcv_lower.specs.Context.{Context, Stack, Core_space, core_types, core_modules, counts}
use Rattle.wcv_lower.specs.CoreItems.{core_entries, outer_entries, may_join, types_join, closed_step, group_step, module_made, module_joins, core_type_made, core_type_step, core_type_checks, core_module_made, core_module_step, core_module_checks, core_module_left}
use Rattle.wcv_lower.specs.Mapped.{Map, Commutes, MakesSame, map_context, map_stack, map_node, map_step}
use Rattle.wcv_lower.specs.Readers.{Reader, Maker, New_node, module_node}
use Rattle.wcv_lower.specs.Step.{Step, core_appends, interns}
use Rattle.wcv_lower.specs.Uses.{made_node, core_type_uses, core_module_uses}
use Rattle.wcv_lower.proofs.Causes.{free_left}
use Rattle.wcv_lower.proofs.Mapping.{counts-mapped}
use Rattle.wcv_lower.proofs.ModulesMade.{joinable, all_made}
use Rattle.wcv_lower.proofs.ValueLaws.{mapped}

module _ {X Y : Reader} (m : Map X Y) {Known : X.Entry → Type 0} (law : Commutes m Known) where
  entries_of-mapped : (xs : List X.Entry) → map Y.core_entry (map m.entry xs) ≡ map X.core_entry xs
  entries_of-mapped [] = refl
  entries_of-mapped (x ∷ xs) = λ j. law.core_entry x j ∷ entries_of-mapped xs j

  pub core_entries-mapped : (c : Context X) → core_entries (map_context m c) ≡ core_entries c
  core_entries-mapped c = entries_of-mapped (c.core core_types)

  outer_entries-mapped : (s : Stack X) → outer_entries (map_stack m s) ≡ outer_entries s
  outer_entries-mapped s = λ j. core_entries-mapped s.top j ∷ go s.outer j
    where
      go : (cs : List (Context X)) → map core_entries (map (map_context m) cs) ≡ map core_entries cs
      go [] = refl
      go (c ∷ cs) = λ j. core_entries-mapped c j ∷ go cs j

  -- ## Steps

  types_join-mapped : (is : List ℕ) → types_join Y is ≡ map_step m (types_join X is)
  types_join-mapped [] = refl
  types_join-mapped (i ∷ is) = λ j. core_appends core_types (law.core_type i j) ∷ types_join-mapped is j

  closed_step-mapped : (gs : List Group) (g : Group) → closed_step Y gs g ≡ map_step m (closed_step X gs g)
  closed_step-mapped gs g = ap (λ p. interns (grown gs g) ∷ p) (types_join-mapped (group_ids gs g))

  group_step-mapped : (s : Stack X) (w : Group) → group_step (map_stack m s) w ≡ option_map (map_step m) (group_step s w)
  group_step-mapped s w =
      (λ j. cond (may_join s.groups (core_entries-mapped s.top j) w) (Some (closed_step-mapped s.groups (closed_group (core_entries-mapped s.top j) w) j)) None) ∙ go (may_join s.groups (core_entries s.top) w)
    where
      go : (b : Bool) → cond b (Some (map_step m (closed_step X s.groups (closed_group (core_entries s.top) w)))) None ≡ option_map (map_step m) (cond b (Some (closed_step X s.groups (closed_group (core_entries s.top) w))) None)
      go true = refl
      go false = refl

  module _ (k : Maker X) (l : Maker Y) where
    made-mapped : (d : Core_space) (o p : Option Made) → p ≡ o → ((n : New_node X) → made_node o ≡ Some n → l.build (map_node m n) ≡ m.entry (k.build n)) → option_map (module_joins l d) p ≡ option_map (map_step m) (option_map (module_joins k d) o)
    made-mapped d o p e u = ap (option_map (module_joins l d)) e ∙ go o u
      where
        go : (o : Option Made) → ((n : New_node X) → made_node o ≡ Some n → l.build (map_node m n) ≡ m.entry (k.build n)) → option_map (module_joins l d) o ≡ option_map (map_step m) (option_map (module_joins k d) o)
        go None u = refl
        go (Some s) u = ap (λ y. Some (interns s.0 ∷ core_appends d y ∷ [])) (u (module_node s.1) refl)

    pub core_type_step-mapped : (fs : WasmFeatures) (s : Stack X) (t : Core_type_form) → MakesSame m Known k l (core_type_uses fs s t) → core_type_step fs l (map_stack m s) t ≡ option_map (map_step m) (core_type_step fs k s t)
    core_type_step-mapped fs s (core_rec w) u = group_step-mapped s w
    core_type_step-mapped fs s (core_module_type ds) u =
        made-mapped core_types (core_type_made fs s (core_module_type ds)) _ (ap (λ (es : List (List Core_entry)). module_made es s.groups (empty_module fs) ds) (outer_entries-mapped s)) u.build

    pub core_module_step-mapped : (fs : WasmFeatures) (s : Stack X) (ds : List Module_decl) → MakesSame m Known k l (core_module_uses fs s ds) → core_module_step fs l (map_stack m s) ds ≡ option_map (map_step m) (core_module_step fs k s ds)
    core_module_step-mapped fs s ds u = made-mapped core_modules (core_module_made fs s ds) _ refl u.build

  pub core_type_checks-mapped : (fs : WasmFeatures) (s : Stack X) (t : Core_type_form) → core_type_checks fs (map_stack m s) t ≡ core_type_checks fs s t
  core_type_checks-mapped fs s (core_rec w) = λ j. group_checks fs s.groups (core_entries-mapped s.top j) w ++ no_core_type_room (length w) (counts-mapped m law s.top j)
  core_type_checks-mapped fs s (core_module_type ds) = λ j. module_checks (outer_entries-mapped s j) s.groups (empty_module fs) ds ++ no_type_room true (counts-mapped m law s.top j)

  pub core_module_left-mapped : (c : Context X) (ds : List Module_decl) → core_module_left (map_context m c) ds ≡ core_module_left c ds
  core_module_left-mapped c ds = λ j. module_left ds ++ full max_instances ((counts-mapped m law c j).core core_modules)

-- ## Without a cause

module _ (X : Reader) (fs : WasmFeatures) (mk : Maker X) (s : Stack X) where
  pub core_type_does : (t : Core_type_form) → IsFree (core_type_checks fs s t) → (p : Step X) × (core_type_step fs mk s t ≡ Some p)
  core_type_does (core_rec w) h =
      let g : Group = w in
      let p : Step X = closed_step X s.groups (closed_group (core_entries s.top) g) in
      (p, ap (λ (b : Bool). cond b (Some p) None) (joinable fs s.groups (core_entries s.top) g (free_left (group_checks fs s.groups (core_entries s.top) g) (no_core_type_room (length w) (counts s.top)) h)))
  core_type_does (core_module_type ds) h =
      mapped (module_joins mk core_types) (core_type_made fs s (core_module_type ds))
      (all_made (outer_entries s) s.groups (empty_module fs) ds (free_left (module_checks (outer_entries s) s.groups (empty_module fs) ds) (no_type_room true (counts s.top)) h))

  pub core_module_does : (ds : List Module_decl) → IsFree (core_module_checks fs s ds) → (p : Step X) × (core_module_step fs mk s ds ≡ Some p)
  core_module_does ds h = mapped (module_joins mk core_modules) (core_module_made fs s ds) (all_made [] s.groups (empty_module fs) ds h)
