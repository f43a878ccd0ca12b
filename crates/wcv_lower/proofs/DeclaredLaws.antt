-- Declared types: what is read and its causes under a map of entries.
use Rattle.std.proofs.Common.{◌≡◌, ℕ, suc, List, [], ◌∷◌, ◌++◌, refl, ◌∙◌, ap, subst, Bool, true, Some, None}
use Rattle.std.specs.Prelude.{Option}
use Rattle.std.specs.Option.{option_map, option_and_then}
use Rattle.wcv_core.specs.Limits.{max_open}
use Rattle.wcv_core.specs.Names.{Place, deeper}
use Rattle.wcv_core.specs.declared.features.WasmFeatures.{WasmFeatures}
use Rattle.wcv_syntax.specs.Model.{core_type_item, type_item, import_item, Type_form, defined_type, func_type, component_type, instance_type, resource_type, Decl, core_type_decl, type_decl, alias_decl, export_decl, import_decl, Decls, no_decls, declare}
use Rattle.wcv_syntax.specs.declared.component_type.ComponentTypeRef.{ComponentTypeRef}
use Rattle.wcv_syntax.specs.declared.name.ComponentExternName.{ComponentExternName}
use Rattle.wcv_lower.specs.Aliases.{alias_step}
use Rattle.wcv_lower.specs.Checks.{Checks, too_many, no_type_room}
use Rattle.wcv_lower.specs.Context.{Kind, concrete, declares_instance, declares_component, in_components, Context, Stack, exporting}
use Rattle.wcv_lower.specs.Declared.{Makers, inside, around, closed_as, ended, full_stack, applied, declared_export_step, declared_export_checks, read_type, read_decl, read_decls, on_read, declared_checks, decl_checks, decls_checks}
use Rattle.wcv_lower.specs.DeclaredMaps.{TypeAlike, DeclAlike, DeclsAlike}
use Rattle.wcv_lower.specs.Ending.{declared_made}
use Rattle.wcv_lower.specs.Entries.{extern_name, written, written_checks}
use Rattle.wcv_lower.specs.Mapped.{Map, Commutes, IsKnown, MakesSame, map_context, map_stack, map_step, map_node}
use Rattle.wcv_lower.specs.Readers.{Reader, New_node}
use Rattle.wcv_lower.specs.Step.{appends, Step, apply, joins_types}
use Rattle.wcv_lower.specs.Uses.{ref_uses, uses_node}
use Rattle.wcv_lower.proofs.AliasLaws.{alias_step-mapped, alias_checks-mapped}
use Rattle.wcv_lower.proofs.CoreLaws.{core_type_checks-mapped}
use Rattle.wcv_lower.proofs.EndingLaws.{declared_made-mapped, declared_end_checks-mapped}
use Rattle.wcv_lower.proofs.EntryLaws.{entering, entry_checks-mapped, written-mapped, written_known, written_checks-mapped, import_checks-mapped}
use Rattle.wcv_lower.proofs.GrowthLaws.{grow-mapped}
use Rattle.wcv_lower.proofs.Mapping.{mapped-square, apply-mapped, counts-mapped}
use Rattle.wcv_lower.proofs.TypeLaws.{type_checks-mapped}
use Rattle.wcv_types.proofs.Each.{length-mapped}
use Rattle.wcv_types.proofs.Lists.{some-inj}

-- what is read after that, where each way is the same
pub then-mapped : {A B C D : Type 0} (f : A → Option B) (g : C → Option D) (u : A → C) (v : B → D) (o : Option A) → ((x : A) → o ≡ Some x → g (u x) ≡ option_map v (f x)) → option_and_then g (option_map u o) ≡ option_map v (option_and_then f o)
then-mapped f g u v None h = refl
then-mapped f g u v (Some x) h = h x refl

-- what was read in two parts
pub then-some : {A B : Type 0} (f : A → Option B) (o : Option A) (y : B) → option_and_then f o ≡ Some y → (x : A) × (o ≡ Some x) × (f x ≡ Some y)
then-some f None y e = cc
then-some f (Some x) y e = (x, refl, e)

module _ {X Y : Reader} (m : Map X Y) {Known : X.Entry → Type 0} (law : Commutes m Known) (fs : WasmFeatures) (k : Makers X) (l : Makers Y) where
  applied-mapped : (s : Stack X) (o : Option (Step X)) (p : Option (Step Y)) → p ≡ option_map (map_step m) o → applied (map_stack m s) p ≡ option_map (map_stack m) (applied s o)
  applied-mapped s o p e = ap (applied (map_stack m s)) e ∙ mapped-square (map_step m) (λ x. apply x (map_stack m s)) (λ x. apply x s) (map_stack m) (λ x. apply-mapped m law x s) o

  around-mapped : (s : Stack X) → around (map_stack m s) ≡ option_map (map_stack m) (around s)
  around-mapped s = go s.outer
    where
      go : (cs : List (Context X)) → around (map_stack m (record s { outer = cs })) ≡ option_map (map_stack m) (around (record s { outer = cs }))
      go [] = refl
      go (c ∷ cs) = refl

  -- ## Ends

  -- what it is joins what stands around it
  closed_as-mapped : (p : Place) (c : Kind) (o : Option (New_node X)) → MakesSame m Known (k p) (l p) (uses_node o) → (n : New_node X) → o ≡ Some n → closed_as c (l p) (map_node m n) ≡ map_step m (closed_as c (k p) n)
  closed_as-mapped p concrete o u n e = ap (λ (y : Y.Entry). appends in_components y ∷ []) (u.build n e)
  closed_as-mapped p declares_instance o u n e = ap joins_types (u.build_type n e)
  closed_as-mapped p declares_component o u n e = ap joins_types (u.build_type n e)

  pub ended-mapped : (p : Place) (c : Kind) (s : Stack X) → MakesSame m Known (k p) (l p) (uses_node (declared_made c s.top)) → ended c (l p) (map_stack m s) ≡ option_map (map_stack m) (ended c (k p) s)
  ended-mapped p c s u =
      ap (option_and_then (λ t. option_map (λ n. apply (closed_as c (l p) n) t) (declared_made c (map_context m s.top)))) (around-mapped s) ∙
      then-mapped (λ t. option_map (λ n. apply (closed_as c (k p) n) t) (declared_made c s.top)) (λ t. option_map (λ n. apply (closed_as c (l p) n) t) (declared_made c (map_context m s.top))) (map_stack m) (map_stack m) (around s) (λ t e. joined t)
    where
      joined : (t : Stack X) → option_map (λ n. apply (closed_as c (l p) n) (map_stack m t)) (declared_made c (map_context m s.top)) ≡ option_map (map_stack m) (option_map (λ n. apply (closed_as c (k p) n) t) (declared_made c s.top))
      joined t = ap (option_map (λ n. apply (closed_as c (l p) n) (map_stack m t))) (declared_made-mapped m law c s.top) ∙ go (declared_made c s.top) (closed_as-mapped p c (declared_made c s.top) u)
        where
          go : (o : Option (New_node X)) → ((n : New_node X) → o ≡ Some n → closed_as c (l p) (map_node m n) ≡ map_step m (closed_as c (k p) n)) →
              option_map (λ n. apply (closed_as c (l p) n) (map_stack m t)) (option_map (map_node m) o) ≡ option_map (map_stack m) (option_map (λ n. apply (closed_as c (k p) n) t) o)
          go None w = refl
          go (Some n) w = ap (λ (q : Step Y). Some (apply q (map_stack m t))) (w n refl) ∙ ap Some (apply-mapped m law (closed_as c (k p) n) t)

  -- ## Declarations

  export_step-mapped : (p : Place) (c : Context X) → IsKnown Known c → (n : ComponentExternName) (r : ComponentTypeRef) → MakesSame m Known (k p) (l p) (ref_uses c r) → declared_export_step (l p) (map_context m c) n r ≡ option_map (map_step m) (declared_export_step (k p) c n r)
  export_step-mapped p c w n r u = entering m law exporting (extern_name n) c (written (k p) c r) _ (written-mapped m law (k p) (l p) c w r u) (written_known m law (k p) (l p) c w r u)

  export_checks-mapped : (p : Place) (c : Context X) → IsKnown Known c → (n : ComponentExternName) (r : ComponentTypeRef) → MakesSame m Known (k p) (l p) (ref_uses c r) → declared_export_checks fs (l p) (map_context m c) n r ≡ declared_export_checks fs (k p) c n r
  export_checks-mapped p c w n r u = entry_checks-mapped m law fs exporting (extern_name n) c _ (written_checks fs c r) (written (k p) c r) _ (written_checks-mapped m law fs c w r) (written-mapped m law (k p) (l p) c w r u) (written_known m law (k p) (l p) c w r u)

  -- at the end of declarations the makers make the same of the node
  end_alike : (p : Place) (n : ℕ) (c : Kind) (s : Stack X) (ds : Decls) → DeclsAlike m Known fs k l p n c s ds → (t : Stack X) → read_decls fs k p n s ds ≡ Some t → MakesSame m Known (k p) (l p) (uses_node (declared_made c t.top))
  end_alike p n c s no_decls h t e = subst (λ (u : Stack X). MakesSame m Known (k p) (l p) (uses_node (declared_made c u.top))) (some-inj e) h
  end_alike p n c s (declare d ds) h t e =
      let w = then-some (λ u. read_decls fs k p (suc n) u ds) (read_decl fs k (deeper p n) s d) t e in
      end_alike p (suc n) c w.0 ds (h.1 w.0 w.1) t w.2

  declared-mapped : (p : Place) (c : Kind) (s : Stack X) (ds : Decls) → DeclsAlike m Known fs k l p 0 c (inside c s) ds → read_decls fs l p 0 (map_stack m (inside c s)) ds ≡ option_map (map_stack m) (read_decls fs k p 0 (inside c s) ds) →
      option_and_then (ended c (l p)) (read_decls fs l p 0 (inside c (map_stack m s)) ds) ≡ option_map (map_stack m) (option_and_then (ended c (k p)) (read_decls fs k p 0 (inside c s) ds))
  declared-mapped p c s ds h e =
      ap (option_and_then (ended c (l p))) e ∙
      then-mapped (ended c (k p)) (ended c (l p)) (map_stack m) (map_stack m) (read_decls fs k p 0 (inside c s) ds) (λ t e. ended-mapped p c t (end_alike p 0 c (inside c s) ds h t e))

  mutual
    -- the mapped stack is read to the mapped one
    pub read_type-mapped : (p : Place) (s : Stack X) (t : Type_form) → TypeAlike m Known fs k l p s t → read_type fs l p (map_stack m s) t ≡ option_map (map_stack m) (read_type fs k p s t)
    read_type-mapped p s (component_type ds) h = declared-mapped p declares_component s ds h (read_decls-mapped p 0 declares_component (inside declares_component s) ds h)
    read_type-mapped p s (instance_type ds) h = declared-mapped p declares_instance s ds h (read_decls-mapped p 0 declares_instance (inside declares_instance s) ds h)
    read_type-mapped p s (defined_type d) h = grow-mapped m law fs (k p) (l p) s (type_item (defined_type d)) h.known h.same
    read_type-mapped p s (func_type f) h = grow-mapped m law fs (k p) (l p) s (type_item (func_type f)) h.known h.same
    read_type-mapped p s (resource_type rep dtor) h = grow-mapped m law fs (k p) (l p) s (type_item (resource_type rep dtor)) h.known h.same

    read_decl-mapped : (p : Place) (s : Stack X) (d : Decl) → DeclAlike m Known fs k l p s d → read_decl fs l p (map_stack m s) d ≡ option_map (map_stack m) (read_decl fs k p s d)
    read_decl-mapped p s (core_type_decl t) h = grow-mapped m law fs (k p) (l p) s (core_type_item t) h.known h.same
    read_decl-mapped p s (type_decl t) h = read_type-mapped p s t h
    read_decl-mapped p s (alias_decl a) h = applied-mapped s (alias_step s a) _ (alias_step-mapped m law s h a)
    read_decl-mapped p s (export_decl n r) h = applied-mapped s (declared_export_step (k p) s.top n r) _ (export_step-mapped p s.top h.known n r h.same)
    read_decl-mapped p s (import_decl i) h = grow-mapped m law fs (k p) (l p) s (import_item i) h.known h.same

    read_decls-mapped : (p : Place) (n : ℕ) (c : Kind) (s : Stack X) (ds : Decls) → DeclsAlike m Known fs k l p n c s ds → read_decls fs l p n (map_stack m s) ds ≡ option_map (map_stack m) (read_decls fs k p n s ds)
    read_decls-mapped p n c s no_decls h = refl
    read_decls-mapped p n c s (declare d ds) h =
        ap (option_and_then (λ t. read_decls fs l p (suc n) t ds)) (read_decl-mapped (deeper p n) s d h.0) ∙
        then-mapped (λ t. read_decls fs k p (suc n) t ds) (λ t. read_decls fs l p (suc n) t ds) (map_stack m) (map_stack m) (read_decl fs k (deeper p n) s d) (λ t e. read_decls-mapped p (suc n) c t ds (h.1 t e))

  -- ## Causes

  pub full-mapped : (s : Stack X) → full_stack (map_stack m s) ≡ full_stack s
  full-mapped s = ap (λ (n : ℕ). too_many max_open (suc (suc n))) (length-mapped (map_context m) s.outer)

  on_read-mapped : (f : Stack X → Checks) (g : Stack Y → Checks) (o : Option (Stack X)) → ((t : Stack X) → o ≡ Some t → g (map_stack m t) ≡ f t) → on_read g (option_map (map_stack m) o) ≡ on_read f o
  on_read-mapped f g None h = refl
  on_read-mapped f g (Some t) h = h t refl

  mutual
    -- and has the same causes
    pub declared_checks-mapped : (limited : Bool) (p : Place) (s : Stack X) (t : Type_form) → TypeAlike m Known fs k l p s t → declared_checks limited fs l p (map_stack m s) t ≡ declared_checks limited fs k p s t
    declared_checks-mapped limited p s (component_type ds) h = λ j. full-mapped s j ++ (decls_checks-mapped p 0 declares_component (inside declares_component s) ds h j ++ no_type_room limited (counts-mapped m law s.top j))
    declared_checks-mapped limited p s (instance_type ds) h = λ j. full-mapped s j ++ (decls_checks-mapped p 0 declares_instance (inside declares_instance s) ds h j ++ no_type_room limited (counts-mapped m law s.top j))
    declared_checks-mapped limited p s (defined_type d) h = type_checks-mapped m law (k p) (l p) s h.known limited fs (defined_type d) h.same
    declared_checks-mapped limited p s (func_type f) h = type_checks-mapped m law (k p) (l p) s h.known limited fs (func_type f) h.same
    declared_checks-mapped limited p s (resource_type rep dtor) h = type_checks-mapped m law (k p) (l p) s h.known limited fs (resource_type rep dtor) h.same

    decl_checks-mapped : (p : Place) (s : Stack X) (d : Decl) → DeclAlike m Known fs k l p s d → decl_checks fs l p (map_stack m s) d ≡ decl_checks fs k p s d
    decl_checks-mapped p s (core_type_decl t) h = core_type_checks-mapped m law fs s t
    decl_checks-mapped p s (type_decl t) h = declared_checks-mapped true p s t h
    decl_checks-mapped p s (alias_decl a) h = alias_checks-mapped m law fs s h a
    decl_checks-mapped p s (export_decl n r) h = export_checks-mapped p s.top h.known n r h.same
    decl_checks-mapped p s (import_decl i) h = import_checks-mapped m law (k p) (l p) fs s.top h.known i h.same

    decls_checks-mapped : (p : Place) (n : ℕ) (c : Kind) (s : Stack X) (ds : Decls) → DeclsAlike m Known fs k l p n c s ds → decls_checks fs l p n c (map_stack m s) ds ≡ decls_checks fs k p n c s ds
    decls_checks-mapped p n c s no_decls h = declared_end_checks-mapped m law c s.top
    decls_checks-mapped p n c s (declare d ds) h =
        let rest : on_read (λ t. decls_checks fs l p (suc n) c t ds) (read_decl fs l (deeper p n) (map_stack m s) d) ≡ on_read (λ t. decls_checks fs k p (suc n) c t ds) (read_decl fs k (deeper p n) s d) =
        ap (on_read (λ t. decls_checks fs l p (suc n) c t ds)) (read_decl-mapped (deeper p n) s d h.0) ∙
        on_read-mapped (λ t. decls_checks fs k p (suc n) c t ds) (λ t. decls_checks fs l p (suc n) c t ds) (read_decl fs k (deeper p n) s d) (λ t e. decls_checks-mapped p (suc n) c t ds (h.1 t e)) in
        λ j. decl_checks-mapped (deeper p n) s d h.0 j ++ rest j
