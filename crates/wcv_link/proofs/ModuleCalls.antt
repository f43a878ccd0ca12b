-- The calls on a module, one after another, and then the one that adds it, are its item.
use Rattle.std.proofs.Common.{◌≡◌, ℕ, List, [], ◌∷◌, sym, ◌∙◌, ap, subst, Bool, true, false, cond, Some, None}
use Rattle.std.specs.Prelude.{Option}
use Rattle.std.specs.Option.{option_map}
use Rattle.wcv_core.specs.CoreForm.{Group}
use Rattle.wcv_core.specs.CoreJoining.{is_free, then_checks}
use Rattle.wcv_core.specs.Names.{Place}
use Rattle.wcv_core.specs.declared.core_types.EntityType.{EntityType}
use Rattle.wcv_core.specs.declared.features.WasmFeatures.{WasmFeatures}
use Rattle.wcv_core.proofs.Causes.{free_both}
use Rattle.wcv_syntax.specs.CoreItems.{ref_checks, entity_of}
use Rattle.wcv_syntax.specs.Model.{Text, Module_decl, module_type, module_import, module_export, module_outer, core_module_item}
use Rattle.wcv_syntax.specs.ModuleTypes.{Module_type, Made, empty_module, declared, decl_checks, with_type, with_import, with_export, with_group_of, aliased, and_then, all_declared, on_made, module_checks, whole_checks, if_entity, export_checks}
use Rattle.wcv_syntax.specs.declared.core_section.Import.{Import}
use Rattle.wcv_syntax.specs.declared.core_section.TypeRef.{TypeRef}
use Rattle.wcv_types.specs.Arena.{Arena}
use Rattle.wcv_types.specs.CoreCalls.{with_core}
use Rattle.wcv_types.specs.Standing.{Extends}
use Rattle.wcv_types.proofs.Lists.{some-inj}
use Rattle.wcv_lower.specs.Checks.{Checks, IsFree}
use Rattle.wcv_lower.specs.Context.{core_modules}
use Rattle.wcv_lower.specs.CoreItems.{core_module_made}
use Rattle.wcv_lower.specs.Trees.{Tree_context, Tree_stack}
use Rattle.wcv_lower.proofs.ModulesMade.{made_same}
use Rattle.wcv_spaces.specs.Contents.{Contents, StateStands}
use Rattle.wcv_spaces.specs.Promises.{Grew}
use Rattle.wcv_decls.specs.CoreItems.{JoinedModule}
use Rattle.wcv_decls.proofs.CoreModules.{core_module_grew}
use Rattle.wcv_link.specs.Modules.{DeclaresEach}

then-free : (cs ds : Checks) → IsFree cs → IsFree ds → IsFree (then_checks cs ds)
then-free cs ds f g = free_both cs (cond (is_free cs) ds []) f (go (is_free cs))
  where
    go : (b : Bool) → IsFree (cond b ds [])
    go true = g
    go false = tt

pub all_folded : (gs : List Group) (m : Module_type) (ds : List Module_decl) (hs : List Group) (n : Module_type) → DeclaresEach gs m ds hs n → IsFree (whole_checks n) → (all_declared [] gs m ds ≡ Some (hs, n)) × IsFree (module_checks [] gs m ds)
all_folded gs m [] hs n w f = (λ j. Some (w.0 j, w.1 j), subst (λ (z : Module_type). IsFree (whole_checks z)) (sym w.1) f)
all_folded gs m (d ∷ ds) hs n w f =
    let s : Made = w.1.0 in
    let r = all_folded s.0 s.1 ds hs n w.1.2 f in
    let made : declared [] gs m d ≡ Some s = w.1.1 in (
      ap (and_then (λ (y : Made). all_declared [] y.0 y.1 ds)) made ∙ r.0,
      then-free (decl_checks [] gs m d) (on_made (λ y. module_checks [] y.0 y.1 ds) (declared [] gs m d)) w.0 (subst (λ (o : Option Made). IsFree (on_made (λ y. module_checks [] y.0 y.1 ds) o)) (sym made) r.1),
    )

pub made_of_calls : (fs : WasmFeatures) (s : Tree_stack) (ds : List Module_decl) (hs : List Group) (m : Module_type) → DeclaresEach s.groups (empty_module fs) ds hs m → IsFree (whole_checks m) → core_module_made fs s ds ≡ Some (hs, m)
made_of_calls fs s ds hs m w f =
    let r = all_folded s.groups (empty_module fs) ds hs m w f in
    made_same [] s.groups (empty_module fs) ds r.1 ∙ r.0

pub grew_by_calls : (a b c : Arena) (s s' : Contents) (ds : List Module_decl) (m : Module_type) → StateStands a s → b ≡ with_core a b.core → Extends a b → DeclaresEach a.core (empty_module s.features) ds b.core m →
    JoinedModule core_modules b c s s' m → IsFree (whole_checks m) → (outer : List Tree_context) (p : Place) → Grew a c outer p s s' (core_module_item ds)
grew_by_calls a b c s s' ds m h rest ext w j f outer p =
    let r = all_folded a.core (empty_module s.features) ds b.core m w f in
    core_module_grew a b c s s' m h rest ext j ds r.0 r.1 outer p

-- ## What each call says

pub types_said : (gs hs : List Group) (m n : Module_type) (g : Group) → (hs, n) ≡ with_group_of gs m g → declared [] gs m (module_type g) ≡ Some (hs, n)
types_said gs hs m n g e = ap Some (sym e)

pub import_said : (gs : List Group) (m n : Module_type) (i : Import) → option_map (with_import gs m (i.module, i.name)) (entity_of m.types i.ty) ≡ Some n → declared [] gs m (module_import i) ≡ Some (gs, n)
import_said gs m n i e = go (entity_of m.types i.ty) e
  where
    go : (o : Option EntityType) → option_map (with_import gs m (i.module, i.name)) o ≡ Some n → option_map {U = Made} (λ x. (gs, with_import gs m (i.module, i.name) x)) o ≡ Some (gs, n)
    go None w = cc
    go (Some x) w = ap (λ (y : Module_type). Some (gs, y)) (some-inj w)

pub export_said : (gs : List Group) (m n : Module_type) (name : Text) (t : TypeRef) (e : EntityType) → entity_of m.types t ≡ Some e → n ≡ with_export gs m name e → declared [] gs m (module_export name t) ≡ Some (gs, n)
export_said gs m n name t e is w = ap (option_map {U = Made} (λ x. (gs, with_export gs m name x))) is ∙ ap (λ (y : Module_type). Some (gs, y)) (sym w)

pub export_free : (gs : List Group) (m : Module_type) (name : Text) (t : TypeRef) (e : EntityType) → entity_of m.types t ≡ Some e → IsFree (ref_checks m.features gs m.types t) → IsFree (export_checks gs m name e) →
    IsFree (decl_checks [] gs m (module_export name t))
export_free gs m name t e is f g =
    free_both (ref_checks m.features gs m.types t) (if_entity (export_checks gs m name) (entity_of m.types t)) f (subst (λ (o : Option EntityType). IsFree (if_entity (export_checks gs m name) o)) (sym is) g)

pub alias_said : (gs : List Group) (m n : Module_type) (k i j : ℕ) → aliased [] m k i ≡ Some j → n ≡ with_type m j → declared [] gs m (module_outer k i) ≡ Some (gs, n)
alias_said gs m n k i j is w = ap (option_map {U = Made} (λ x. (gs, with_type m x))) is ∙ ap (λ (y : Module_type). Some (gs, y)) (sym w)
