-- The names of exports, and a set of them.
use Rattle.std.proofs.Common.{◌≡◌, List, [], ◌∷◌, ◌++◌, Bool, true, false, ◌||◌, not, refl, sym, ◌∙◌, ap, arith, subst}
use Rattle.std.specs.Str.{bytes_eq}
use Rattle.std.proofs.lemmas.Slice.Eq.{bytes_eq-Decides}
use Rattle.wcv_core.proofs.Among.{is_among-joined}
use Rattle.wcv_core.specs.Label.{is_among}
use Rattle.wcv_core.specs.declared.core_types.EntityType.{EntityType}
use Rattle.wcv_syntax.specs.Model.{Text}
use Rattle.wcv_syntax.specs.ModuleTypes.{Core_export, export_names}

names_push : (es : List Core_export) (n : Text) (ty : EntityType) → export_names (es ++ (n, ty) ∷ []) ≡ export_names es ++ n ∷ []
names_push [] n ty = refl
names_push (e ∷ es) n ty = λ j. e.0 ∷ names_push es n ty j

-- a new name joins both
pub named_push : (t n : Text) (ns : List Text) (es : List Core_export) (ty : EntityType) → is_among t ns ≡ is_among t (export_names es) → (bytes_eq t n || is_among t ns) ≡ is_among t (export_names (es ++ (n, ty) ∷ []))
named_push t n ns es ty e = ap (λ (b : Bool). bytes_eq t n || b) e ∙ (is_among-joined t n (export_names es) ∙ ap (is_among t) (sym (names_push es n ty)))

pub same_text : (a b : Text) → bytes_eq a b ≡ true → a ≡ b
same_text a b e = grind (arith, bytes_eq-Decides a b)

-- a name that is there changes nothing
pub named_again : (t n : Text) (ns : List Text) → is_among n ns ≡ true → (bytes_eq t n || is_among t ns) ≡ is_among t ns
named_again t n ns e = go (bytes_eq t n) refl
  where
    go : (b : Bool) → bytes_eq t n ≡ b → (b || is_among t ns) ≡ is_among t ns
    go true f = sym (subst (λ u. is_among u ns ≡ true) (sym (same_text t n f)) e)
    go false f = refl

-- ## What a module keeps, with one more export

pub kept_push : (t n u : Text) (ns new : List Text) (es fs : List Core_export) (ty : EntityType) → is_among t new ≡ (bytes_eq t u || is_among t ns) → u ≡ n → fs ≡ es ++ (n, ty) ∷ [] → is_among t ns ≡ is_among t (export_names es) → is_among t new ≡ is_among t (export_names fs)
kept_push t n u ns new es fs ty has e f named =
    has ∙ (ap (λ (v : Text). bytes_eq t v || is_among t ns) e ∙ (named_push t n ns es ty named ∙ ap (λ xs. is_among t (export_names xs)) (sym f)))

pub not_false : (b : Bool) → false ≡ not b → b ≡ true
not_false true e = refl
not_false false e = e

pub not_true : (b : Bool) → true ≡ not b → b ≡ false
not_true true e = e
not_true false e = refl

-- and where the name is there already
pub kept_again : (t u : Text) (ns new : List Text) (es fs : List Core_export) → is_among t new ≡ (bytes_eq t u || is_among t ns) → false ≡ not (is_among u ns) → fs ≡ es → is_among t ns ≡ is_among t (export_names es) → is_among t new ≡ is_among t (export_names fs)
kept_again t u ns new es fs has e f named = has ∙ (named_again t u ns (not_false (is_among u ns) e) ∙ (named ∙ ap (λ xs. is_among t (export_names xs)) (sym f)))
