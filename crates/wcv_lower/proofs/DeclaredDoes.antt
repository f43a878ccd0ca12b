-- Declared types where there is no cause: what is read is there.
use Rattle.std.proofs.Common.{◌≡◌, ℕ, zero, suc, List, [], ◌∷◌, length, refl, sym, ◌∙◌, ap, subst, Bool, true, Some, None}
use Rattle.std.specs.Prelude.{Option}
use Rattle.std.specs.Option.{option_map, option_and_then}
use Rattle.std.proofs.Math.Nat.{suc_inj}
use Rattle.wcv_core.specs.Names.{Place, deeper}
use Rattle.wcv_core.specs.declared.features.WasmFeatures.{WasmFeatures}
use Rattle.wcv_syntax.specs.Model.{core_type_item, type_item, import_item, Type_form, defined_type, func_type, component_type, instance_type, resource_type, Decl, core_type_decl, type_decl, alias_decl, export_decl, import_decl, Decls, no_decls, declare}
use Rattle.wcv_lower.specs.Aliases.{alias_step}
use Rattle.wcv_lower.specs.Checks.{Checks, IsFree, no_type_room}
use Rattle.wcv_lower.specs.Context.{Kind, declares_instance, declares_component, Context, Stack, exporting, charge, counts}
use Rattle.wcv_lower.specs.CoreItems.{core_type_step}
use Rattle.wcv_lower.specs.Declared.{Makers, inside, around, closed_as, ended, full_stack, applied, declared_export_step, read_type, read_decl, read_decls, on_read, declared_checks, decl_checks, decls_checks}
use Rattle.wcv_lower.specs.Ending.{declared_made, declared_end_checks}
use Rattle.wcv_lower.specs.Entries.{extern_name, written, written_checks, import_step}
use Rattle.wcv_lower.specs.Growth.{step}
use Rattle.wcv_lower.specs.Readers.{Reader}
use Rattle.wcv_lower.specs.SideNames.{TellsRepeats}
use Rattle.wcv_lower.specs.Step.{Change, appends, lists, introduces, defines, creates, core_appends, interns, charges, types_slots, marks_value, uses_value, names_start, Step, change_at, change, apply}
use Rattle.wcv_lower.specs.Types.{type_step}
use Rattle.wcv_lower.proofs.AliasLaws.{alias_does}
use Rattle.wcv_lower.proofs.Causes.{free_left, free_right}
use Rattle.wcv_lower.proofs.CoreLaws.{core_type_does}
use Rattle.wcv_lower.proofs.DeclaredLaws.{then-some}
use Rattle.wcv_lower.proofs.EndingLaws.{has_node}
use Rattle.wcv_lower.proofs.EntryLaws.{written_there, free_looked, entry_does, import_does}
use Rattle.wcv_lower.proofs.TypeLaws.{type_does}
use Rattle.wcv_types.proofs.Lists.{some-inj}

-- ## How many contexts stand on the stack

change_at-length : {A : Type 0} (k : ℕ) (f : A → A) (xs : List A) → length (change_at k f xs) ≡ length xs
change_at-length k f [] = refl
change_at-length zero f (x ∷ xs) = refl
change_at-length (suc k) f (x ∷ xs) = ap suc (change_at-length k f xs)

module _ {X : Reader} where
  change-outer : (x : Change X) (s : Stack X) → length (change x s).outer ≡ length s.outer
  change-outer (appends k x) s = refl
  change-outer (lists d n x) s = refl
  change-outer (introduces d rs) s = refl
  change-outer (defines r v) s = refl
  change-outer (creates d is) s = refl
  change-outer (core_appends k x) s = refl
  change-outer (interns gs) s = refl
  change-outer (charges zero n) s = refl
  change-outer (charges (suc k) n) s = change_at-length k (charge n) s.outer
  change-outer (types_slots v) s = refl
  change-outer (marks_value b) s = refl
  change-outer (uses_value k) s = refl
  change-outer names_start s = refl

  apply-outer : (p : Step X) (s : Stack X) → length (apply p s).outer ≡ length s.outer
  apply-outer [] s = refl
  apply-outer (x ∷ p) s = apply-outer p (change x s) ∙ change-outer x s

  pub applied-outer : (s u : Stack X) (o : Option (Step X)) → applied s o ≡ Some u → length u.outer ≡ length s.outer
  applied-outer s u None e = cc
  applied-outer s u (Some p) e = ap (λ (t : Stack X). length t.outer) (sym (some-inj e)) ∙ apply-outer p s

  around-outer : (s : Stack X) (u : Stack X) → around s ≡ Some u → length s.outer ≡ suc (length u.outer)
  around-outer s u e = go s.outer e
    where
      go : (cs : List (Context X)) → around (record s { outer = cs }) ≡ Some u → length cs ≡ suc (length u.outer)
      go [] e = cc
      go (c ∷ cs) e = ap (λ (t : Stack X). suc (length t.outer)) (some-inj e)

  around_there : (s : Stack X) (n : ℕ) → length s.outer ≡ suc n → (u : Stack X) × (around s ≡ Some u)
  around_there s n e = go s.outer e
    where
      go : (cs : List (Context X)) → length cs ≡ suc n → (u : Stack X) × (around (record s { outer = cs }) ≡ Some u)
      go [] e = cc
      go (c ∷ cs) e = (record { top = c; outer = cs; groups = s.groups }, refl)

module _ (X : Reader) (fs : WasmFeatures) (mk : Makers X) where
  pub ended-outer : (c : Kind) (p : Place) (s u : Stack X) → ended c (mk p) s ≡ Some u → length s.outer ≡ suc (length u.outer)
  ended-outer c p s u e =
      let v = then-some (λ t. option_map (λ n. apply (closed_as c (mk p) n) t) (declared_made c s.top)) (around s) u e in
      around-outer s v.0 v.1 ∙ ap suc (sym (go v.0 (declared_made c s.top) v.2))
    where
      go : (t : Stack X) (o : Option _) → option_map (λ n. apply (closed_as c (mk p) n) t) o ≡ Some u → length u.outer ≡ length t.outer
      go t None e = cc
      go t (Some n) e = ap (λ (t : Stack X). length t.outer) (sym (some-inj e)) ∙ apply-outer (closed_as c (mk p) n) t

  mutual
    -- as many as before
    pub read_type-outer : (p : Place) (s u : Stack X) (t : Type_form) → read_type fs mk p s t ≡ Some u → length u.outer ≡ length s.outer
    read_type-outer p s u (component_type ds) e =
        let t = then-some (ended declares_component (mk p)) (read_decls fs mk p 0 (inside declares_component s) ds) u e in
        suc_inj (sym (ended-outer declares_component p t.0 u t.2) ∙ read_decls-outer p 0 (inside declares_component s) t.0 ds t.1)
    read_type-outer p s u (instance_type ds) e =
        let t = then-some (ended declares_instance (mk p)) (read_decls fs mk p 0 (inside declares_instance s) ds) u e in
        suc_inj (sym (ended-outer declares_instance p t.0 u t.2) ∙ read_decls-outer p 0 (inside declares_instance s) t.0 ds t.1)
    read_type-outer p s u (defined_type d) e = applied-outer s u (step fs (mk p) s (type_item (defined_type d))) e
    read_type-outer p s u (func_type f) e = applied-outer s u (step fs (mk p) s (type_item (func_type f))) e
    read_type-outer p s u (resource_type rep dtor) e = applied-outer s u (step fs (mk p) s (type_item (resource_type rep dtor))) e

    read_decl-outer : (p : Place) (s u : Stack X) (d : Decl) → read_decl fs mk p s d ≡ Some u → length u.outer ≡ length s.outer
    read_decl-outer p s u (core_type_decl t) e = applied-outer s u (step fs (mk p) s (core_type_item t)) e
    read_decl-outer p s u (type_decl t) e = read_type-outer p s u t e
    read_decl-outer p s u (alias_decl a) e = applied-outer s u (alias_step s a) e
    read_decl-outer p s u (export_decl n r) e = applied-outer s u (declared_export_step (mk p) s.top n r) e
    read_decl-outer p s u (import_decl i) e = applied-outer s u (step fs (mk p) s (import_item i)) e

    read_decls-outer : (p : Place) (n : ℕ) (s u : Stack X) (ds : Decls) → read_decls fs mk p n s ds ≡ Some u → length u.outer ≡ length s.outer
    read_decls-outer p n s u no_decls e = ap (λ (t : Stack X). length t.outer) (sym (some-inj e))
    read_decls-outer p n s u (declare d ds) e =
        let t = then-some (λ t. read_decls fs mk p (suc n) t ds) (read_decl fs mk (deeper p n) s d) u e in
        read_decls-outer p (suc n) t.0 u ds t.2 ∙ read_decl-outer (deeper p n) s t.0 d t.1

  -- ## Without a cause

  applied_there : (s : Stack X) (o : Option (Step X)) → (x : Step X) × (o ≡ Some x) → (u : Stack X) × (applied s o ≡ Some u)
  applied_there s o w = (apply w.0 s, ap (applied s) w.1)

  pub ended_there : (c : Kind) (p : Place) (s u : Stack X) → length u.outer ≡ suc (length s.outer) → IsFree (declared_end_checks c u.top) → (v : Stack X) × (ended c (mk p) u ≡ Some v)
  ended_there c p s u e h =
      let v = around_there u (length s.outer) e in
      let n = has_node c u.top h in
      (apply (closed_as c (mk p) n.0) v.0, (λ j. option_and_then (λ t. option_map (λ n. apply (closed_as c (mk p) n) t) (n.1 j)) (v.1 j)))

  declared_there : (c : Kind) (p : Place) (s : Stack X) (ds : Decls) → (u : Stack X) × (read_decls fs mk p 0 (inside c s) ds ≡ Some u) × IsFree (declared_end_checks c u.top) →
      (v : Stack X) × (option_and_then (ended c (mk p)) (read_decls fs mk p 0 (inside c s) ds) ≡ Some v)
  declared_there c p s ds w =
      let v = ended_there c p s w.0 (read_decls-outer p 0 (inside c s) w.0 ds w.1) w.2 in
      (v.0, ap (option_and_then (ended c (mk p))) w.1 ∙ v.1)

  module _ (tells : TellsRepeats X) where
    mutual
      -- where there is no cause, what is read is there
      pub type_there : (limited : Bool) (p : Place) (s : Stack X) (t : Type_form) → IsFree (declared_checks limited fs mk p s t) → (u : Stack X) × (read_type fs mk p s t ≡ Some u)
      type_there limited p s (component_type ds) h =
          declared_there declares_component p s ds (decls_there p 0 declares_component (inside declares_component s) ds (free_left _ (no_type_room limited (counts s.top)) (free_right (full_stack s) _ h)))
      type_there limited p s (instance_type ds) h =
          declared_there declares_instance p s ds (decls_there p 0 declares_instance (inside declares_instance s) ds (free_left _ (no_type_room limited (counts s.top)) (free_right (full_stack s) _ h)))
      type_there limited p s (defined_type d) h = applied_there s (type_step (mk p) s.top (defined_type d)) (type_does X fs (mk p) s limited (defined_type d) refl h)
      type_there limited p s (func_type f) h = applied_there s (type_step (mk p) s.top (func_type f)) (type_does X fs (mk p) s limited (func_type f) refl h)
      type_there limited p s (resource_type rep dtor) h = applied_there s (type_step (mk p) s.top (resource_type rep dtor)) (type_does X fs (mk p) s limited (resource_type rep dtor) refl h)

      decl_there : (p : Place) (s : Stack X) (d : Decl) → IsFree (decl_checks fs mk p s d) → (u : Stack X) × (read_decl fs mk p s d ≡ Some u)
      decl_there p s (core_type_decl t) h = applied_there s (core_type_step fs (mk p) s t) (core_type_does X fs (mk p) s t h)
      decl_there p s (type_decl t) h = type_there true p s t h
      decl_there p s (alias_decl a) h = applied_there s (alias_step s a) (alias_does X fs s a h)
      decl_there p s (export_decl n r) h =
          applied_there s (declared_export_step (mk p) s.top n r)
          (entry_does X tells fs exporting (extern_name n) s.top (written_checks fs s.top r) (written (mk p) s.top r)
          (written_there X fs (mk p) s.top r (free_looked X fs exporting (extern_name n) s.top (written_checks fs s.top r) (written (mk p) s.top r) h)) h)
      decl_there p s (import_decl i) h = applied_there s (import_step (mk p) s.top i) (import_does X tells fs (mk p) s.top i h)

      decls_there : (p : Place) (n : ℕ) (c : Kind) (s : Stack X) (ds : Decls) → IsFree (decls_checks fs mk p n c s ds) → (u : Stack X) × (read_decls fs mk p n s ds ≡ Some u) × IsFree (declared_end_checks c u.top)
      decls_there p n c s no_decls h = (s, refl, h)
      decls_there p n c s (declare d ds) h =
          let own : Checks = decl_checks fs mk (deeper p n) s d in
          let rest : Checks = on_read (λ t. decls_checks fs mk p (suc n) c t ds) (read_decl fs mk (deeper p n) s d) in
          let t = decl_there (deeper p n) s d (free_left own rest h) in
          let u = decls_there p (suc n) c t.0 ds (subst (λ (o : Option (Stack X)). IsFree (on_read (λ t. decls_checks fs mk p (suc n) c t ds) o)) t.1 (free_right own rest h)) in
          (u.0, ap (option_and_then (λ t. read_decls fs mk p (suc n) t ds)) t.1 ∙ u.1, u.2)
