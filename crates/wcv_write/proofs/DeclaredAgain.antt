-- Types with their declarations that are written are read again.
use Rattle.std.proofs.Common.{◌≡◌, ℕ, zero, suc, Some, Option, refl, ap, ◌∙◌, option_map, Bool, true, false, List, [], ◌∷◌}
use Rattle.serde_json.specs.Data.{Data}
use Rattle.wcv_syntax.specs.Model.{Type_form, defined_type, func_type, component_type, instance_type, resource_type, Decl, core_type_decl, type_decl, alias_decl, export_decl, import_decl, Decls, no_decls, declare}
use Rattle.wcv_syntax.specs.View.{decls_of}
use Rattle.wcv_listing.specs.Fields.{all_of}
use Rattle.wcv_listing.specs.Forms.{declared_export, component_decl_of, instance_decl_of, type_over, type_within, type_of}
use Rattle.wcv_write.specs.Indices.{numbers}
use Rattle.wcv_write.specs.Sayable.{SaysType, SaysDecl, SaysDecls}
use Rattle.wcv_write.specs.Types.{type_data, decl_data, decl_items}
use Rattle.wcv_write.proofs.CoreAgain.{core_type_again}
use Rattle.wcv_write.proofs.FormsAgain.{alias_again, import_again, both_cons}
use Rattle.wcv_write.proofs.TypesAgain.{defined_again, func_again, resource_again}

list_of : Decls → List Decl
list_of no_decls = []
list_of (declare d ds) = d ∷ list_of ds

of_list : (ds : Decls) → decls_of (list_of ds) ≡ ds
unfolding list_of
of_list no_decls = refl
of_list (declare d ds) = ap (declare d) (of_list ds)

-- a declaration of a component type or else of an instance type, over types that may stand in it
abbrev decl_of : Bool → (Data → Option Type_form) → Data → Option Decl
decl_of true inner d = component_decl_of inner d
decl_of false inner d = instance_decl_of inner d

mutual
  unfolding type_within SaysType list_of

  type_over_again : (t : Type_form) (n : ℕ) → SaysType t n → type_over (type_within n) (type_data numbers t) ≡ Some t
  type_over_again (defined_type d) n h = ap (option_map defined_type) (defined_again d h)
  type_over_again (func_type f) n h = ap (option_map func_type) (func_again f h)
  type_over_again (component_type ds) n h = ap (option_map (λ xs. component_type (decls_of xs))) (decls_again true ds n h) ∙ ap (λ x. Some (component_type x)) (of_list ds)
  type_over_again (instance_type ds) n h = ap (option_map (λ xs. instance_type (decls_of xs))) (decls_again false ds n h) ∙ ap (λ x. Some (instance_type x)) (of_list ds)
  type_over_again (resource_type rep dtor) n h = resource_again rep dtor h.0 h.1

  decl_again : (imports : Bool) (d : Decl) (n : ℕ) → SaysDecl imports d n → decl_of imports (type_within n) (decl_data d) ≡ Some d
  decl_again true (core_type_decl t) n h = ap (option_map core_type_decl) (core_type_again t h)
  decl_again false (core_type_decl t) n h = ap (option_map core_type_decl) (core_type_again t h)
  decl_again true (type_decl t) zero h = absurd (cc)
  decl_again false (type_decl t) zero h = absurd (cc)
  decl_again true (type_decl t) (suc n) h = ap (option_map type_decl) (type_over_again t n h)
  decl_again false (type_decl t) (suc n) h = ap (option_map type_decl) (type_over_again t n h)
  decl_again true (alias_decl a) n h = ap (option_map alias_decl) (alias_again a h)
  decl_again false (alias_decl a) n h = ap (option_map alias_decl) (alias_again a h)
  decl_again true (export_decl m t) n h = ap (option_map declared_export) (import_again (record { name = m; ty = t }) h)
  decl_again false (export_decl m t) n h = ap (option_map declared_export) (import_again (record { name = m; ty = t }) h)
  decl_again true (import_decl i) n h = ap (option_map import_decl) (import_again i h)
  decl_again false (import_decl i) n h = absurd (cc)

  decls_again : (imports : Bool) (ds : Decls) (n : ℕ) → SaysDecls imports ds n → all_of (decl_of imports (type_within n)) (decl_items ds) ≡ Some (list_of ds)
  decls_again imports no_decls n h = refl
  decls_again imports (declare d ds) n h = both_cons d (list_of ds) (decl_of imports (type_within n) (decl_data d)) (all_of (decl_of imports (type_within n)) (decl_items ds)) (decl_again imports d n h.0) (decls_again imports ds n h.1)

pub type_again : (t : Type_form) → SaysType t 126 → type_of (type_data numbers t) ≡ Some t
unfolding type_within
type_again t h = type_over_again t 126 h
