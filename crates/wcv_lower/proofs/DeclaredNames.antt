-- Declared types look at the names of their own places alone, and under renamed names they are the renamed ones.
use Rattle.std.proofs.Common.{◌≡◌, ℕ, suc, ◌++◌, refl, sym, subst, Bool, true, arith}
use Rattle.std.specs.Option.{option_map, option_and_then}
use Rattle.wcv_core.specs.Names.{Place, deeper}
use Rattle.wcv_core.specs.declared.features.WasmFeatures.{WasmFeatures}
use Rattle.wcv_core.proofs.Places.{under-refl, under-deeper}
use Rattle.wcv_syntax.specs.Model.{core_type_item, type_item, import_item, Type_form, defined_type, func_type, component_type, instance_type, resource_type, Decl, core_type_decl, type_decl, alias_decl, export_decl, import_decl, Decls, no_decls, declare}
use Rattle.wcv_lower.specs.Checks.{no_type_room}
use Rattle.wcv_lower.specs.Context.{Kind, declares_instance, declares_component, Stack, counts}
use Rattle.wcv_lower.specs.Declared.{Makers, inside, ended, full_stack, applied, declared_export_step, declared_export_checks, read_type, read_decl, read_decls, on_read, declared_checks, decl_checks, decls_checks}
use Rattle.wcv_lower.specs.DeclaredCalls.{FromDecl}
use Rattle.wcv_lower.specs.DeclaredMaps.{Alike, TypeAlike, DeclAlike, DeclsAlike}
use Rattle.wcv_lower.specs.Entries.{import_checks}
use Rattle.wcv_lower.specs.Growth.{grow}
use Rattle.wcv_lower.specs.Mapped.{map_stack}
use Rattle.wcv_lower.specs.Names.{place_of, Names, Under, AreRenamed}
use Rattle.wcv_lower.specs.Readers.{Reader}
use Rattle.wcv_lower.specs.Renamed.{Renaming, renaming}
use Rattle.wcv_lower.specs.Trees.{Tree_stack, tree_reader, tree_maker}
use Rattle.wcv_lower.specs.Types.{type_checks}
use Rattle.wcv_lower.specs.Uses.{Uses}
use Rattle.wcv_lower.proofs.Agreeing.{SameNames, maker_same}
use Rattle.wcv_lower.proofs.DeclaredLaws.{read_type-mapped, declared_checks-mapped}
use Rattle.wcv_lower.proofs.Growing.{known}
use Rattle.wcv_lower.proofs.MadeRenamed.{makes_renamed}
use Rattle.wcv_lower.proofs.Renamed.{renaming_commutes}

-- ## The same names

-- they make the same at those places
abbrev pub MakeSame : {X : Reader} → Makers X → Makers X → (Place → Type 0) → Type 0
MakeSame k l In = (q : Place) → In q → l q ≡ k q

module _ {X : Reader} (k l : Makers X) (p : Place) where
  pub same_inside : (n : ℕ) → MakeSame k l (Under p) → MakeSame k l (FromDecl p n)
  same_inside n h q w = h q (under-deeper p w.0 q w.2)

  pub same_first : (n : ℕ) → MakeSame k l (FromDecl p n) → MakeSame k l (Under (deeper p n))
  same_first n h q u = h q (n, omega arith, u)

  pub same_rest : (n : ℕ) → MakeSame k l (FromDecl p n) → MakeSame k l (FromDecl p (suc n))
  same_rest n h q w =
      let x = w.1 in
      h q (w.0, omega (arith, x), w.2)

module _ {X : Reader} (fs : WasmFeatures) (k l : Makers X) where
  mutual
    pub read_type-agrees : (p : Place) (s : Stack X) (t : Type_form) → MakeSame k l (Under p) → read_type fs l p s t ≡ read_type fs k p s t
    read_type-agrees p s (component_type ds) h = λ j. option_and_then (ended declares_component (h p (under-refl p) j)) (read_decls-agree p 0 (inside declares_component s) ds (same_inside k l p 0 h) j)
    read_type-agrees p s (instance_type ds) h = λ j. option_and_then (ended declares_instance (h p (under-refl p) j)) (read_decls-agree p 0 (inside declares_instance s) ds (same_inside k l p 0 h) j)
    read_type-agrees p s (defined_type d) h = λ j. grow fs (h p (under-refl p) j) s (type_item (defined_type d))
    read_type-agrees p s (func_type f) h = λ j. grow fs (h p (under-refl p) j) s (type_item (func_type f))
    read_type-agrees p s (resource_type rep dtor) h = λ j. grow fs (h p (under-refl p) j) s (type_item (resource_type rep dtor))

    pub read_decl-agrees : (p : Place) (s : Stack X) (d : Decl) → MakeSame k l (Under p) → read_decl fs l p s d ≡ read_decl fs k p s d
    read_decl-agrees p s (core_type_decl t) h = λ j. grow fs (h p (under-refl p) j) s (core_type_item t)
    read_decl-agrees p s (type_decl t) h = read_type-agrees p s t h
    read_decl-agrees p s (alias_decl a) h = refl
    read_decl-agrees p s (export_decl n r) h = λ j. applied s (declared_export_step (h p (under-refl p) j) s.top n r)
    read_decl-agrees p s (import_decl i) h = λ j. grow fs (h p (under-refl p) j) s (import_item i)

    pub read_decls-agree : (p : Place) (n : ℕ) (s : Stack X) (ds : Decls) → MakeSame k l (FromDecl p n) → read_decls fs l p n s ds ≡ read_decls fs k p n s ds
    read_decls-agree p n s no_decls h = refl
    read_decls-agree p n s (declare d ds) h = λ j. option_and_then (λ t. read_decls-agree p (suc n) t ds (same_rest k l p n h) j) (read_decl-agrees (deeper p n) s d (same_first k l p n h) j)

  mutual
    pub declared_checks-agree : (limited : Bool) (p : Place) (s : Stack X) (t : Type_form) → MakeSame k l (Under p) → declared_checks limited fs l p s t ≡ declared_checks limited fs k p s t
    declared_checks-agree limited p s (component_type ds) h = λ j. full_stack s ++ (decls_checks-agree p 0 declares_component (inside declares_component s) ds (same_inside k l p 0 h) j ++ no_type_room limited (counts s.top))
    declared_checks-agree limited p s (instance_type ds) h = λ j. full_stack s ++ (decls_checks-agree p 0 declares_instance (inside declares_instance s) ds (same_inside k l p 0 h) j ++ no_type_room limited (counts s.top))
    declared_checks-agree limited p s (defined_type d) h = λ j. type_checks limited fs (h p (under-refl p) j) s (defined_type d)
    declared_checks-agree limited p s (func_type f) h = λ j. type_checks limited fs (h p (under-refl p) j) s (func_type f)
    declared_checks-agree limited p s (resource_type rep dtor) h = λ j. type_checks limited fs (h p (under-refl p) j) s (resource_type rep dtor)

    pub decl_checks-agree : (p : Place) (s : Stack X) (d : Decl) → MakeSame k l (Under p) → decl_checks fs l p s d ≡ decl_checks fs k p s d
    decl_checks-agree p s (core_type_decl t) h = refl
    decl_checks-agree p s (type_decl t) h = declared_checks-agree true p s t h
    decl_checks-agree p s (alias_decl a) h = refl
    decl_checks-agree p s (export_decl n r) h = λ j. declared_export_checks fs (h p (under-refl p) j) s.top n r
    decl_checks-agree p s (import_decl i) h = λ j. import_checks fs (h p (under-refl p) j) s.top i

    pub decls_checks-agree : (p : Place) (n : ℕ) (c : Kind) (s : Stack X) (ds : Decls) → MakeSame k l (FromDecl p n) → decls_checks fs l p n c s ds ≡ decls_checks fs k p n c s ds
    decls_checks-agree p n c s no_decls h = refl
    decls_checks-agree p n c s (declare d ds) h =
        λ j. decl_checks-agree (deeper p n) s d (same_first k l p n h) j ++ on_read (λ t. decls_checks-agree p (suc n) c t ds (same_rest k l p n h) j) (read_decl-agrees (deeper p n) s d (same_first k l p n h) j)

-- names that are the same at those places make the same there
pub makers_agree : (n m : Names) (In : Place → Type 0) → SameNames In n m → MakeSame {X = tree_reader} (tree_maker n) (tree_maker m) In
makers_agree n m In h q u = maker_same n m q (record { resource = λ o e. h.resource o (subst In (sym e) u); identity = λ o e. h.identity o (subst In (sym e) u) })

-- ## Renamed names

module _ (w : Renaming) (n m : Names) (fs : WasmFeatures) where
  abbrev pub Renames : Place → Type 0
  Renames p = AreRenamed (Under p) w.resources.to w.identities.to n m

  pub renamed_inside : (p : Place) (i : ℕ) → Renames p → Renames (deeper p i)
  renamed_inside p i r = record { resource = λ o h. r.resource o (under-deeper p i (place_of o) h); identity = λ o h. r.identity o (under-deeper p i (place_of o) h) }

  alike : (p : Place) (s : Tree_stack) (u : Uses tree_reader) → Renames p → Alike (renaming w) (λ t. Unit {0}) fs (tree_maker n) (tree_maker m) p s u
  alike p s u r = record { known = known s.top; same = makes_renamed w n m p r u }

  mutual
    type_alike : (p : Place) (s : Tree_stack) (t : Type_form) → Renames p → TypeAlike (renaming w) (λ t. Unit {0}) fs (tree_maker n) (tree_maker m) p s t
    type_alike p s (component_type ds) r = decls_alike p 0 declares_component (inside declares_component s) ds r
    type_alike p s (instance_type ds) r = decls_alike p 0 declares_instance (inside declares_instance s) ds r
    type_alike p s (defined_type d) r = alike p s _ r
    type_alike p s (func_type f) r = alike p s _ r
    type_alike p s (resource_type rep dtor) r = alike p s _ r

    decl_alike : (p : Place) (s : Tree_stack) (d : Decl) → Renames p → DeclAlike (renaming w) (λ t. Unit {0}) fs (tree_maker n) (tree_maker m) p s d
    decl_alike p s (core_type_decl t) r = alike p s _ r
    decl_alike p s (type_decl t) r = type_alike p s t r
    decl_alike p s (alias_decl a) r = known s.top
    decl_alike p s (export_decl x t) r = alike p s _ r
    decl_alike p s (import_decl i) r = alike p s _ r

    decls_alike : (p : Place) (i : ℕ) (c : Kind) (s : Tree_stack) (ds : Decls) → Renames p → DeclsAlike (renaming w) (λ t. Unit {0}) fs (tree_maker n) (tree_maker m) p i c s ds
    decls_alike p i c s no_decls r = makes_renamed w n m p r _
    decls_alike p i c s (declare d ds) r = (decl_alike (deeper p i) s d (renamed_inside p i r), (λ t e. decls_alike p (suc i) c t ds r))

  pub read_type-renamed : (p : Place) → Renames p → (s : Tree_stack) (t : Type_form) → read_type fs (tree_maker m) p (map_stack (renaming w) s) t ≡ option_map (map_stack (renaming w)) (read_type fs (tree_maker n) p s t)
  read_type-renamed p r s t = read_type-mapped (renaming w) (renaming_commutes w) fs (tree_maker n) (tree_maker m) p s t (type_alike p s t r)

  pub declared_checks-renamed : (p : Place) → Renames p → (limited : Bool) (s : Tree_stack) (t : Type_form) → declared_checks limited fs (tree_maker m) p (map_stack (renaming w) s) t ≡ declared_checks limited fs (tree_maker n) p s t
  declared_checks-renamed p r limited s t = declared_checks-mapped (renaming w) (renaming_commutes w) fs (tree_maker n) (tree_maker m) limited p s t (type_alike p s t r)
