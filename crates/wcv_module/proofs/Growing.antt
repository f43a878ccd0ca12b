-- The table of core types only grows.
use Rattle.std.proofs.Common.{◌≡◌, ℕ, zero, suc, ◌<◌, List, [], ◌∷◌, ◌++◌, length, refl, sym, ◌∙◌, ap, subst, Option, Some, None, Result, Ok, Err, OnOk, OnErr, All, get_or, slice_get}
use Rattle.std.proofs.lemmas.Option.{slice_get_within, get_or_from_slice_get}
use Rattle.std.proofs.lemmas.List.Elements.{All-get_or}
use Rattle.std.specs.Option.{option_map}
use Rattle.wcv_core.proofs.Kept.{map-append}
use Rattle.wcv_core.proofs.Ranges.{known_push, known_more}
use Rattle.wcv_core.specs.CoreForm.{Group}
use Rattle.wcv_core.specs.CoreGroups.{total}
use Rattle.wcv_core.specs.CoreWritten.{Core_entry, sub_entry, module_entry, IsKnown}
use Rattle.wcv_core.specs.declared.error.Error.{Error}
use Rattle.wcv_syntax.specs.CoreItems.{type_entry}
use Rattle.wcv_syntax.specs.ModuleTypes.{Module_type, module_entries, with_type, at_index, on_entry, aliased}
use Rattle.wcv_types.specs.Arena.{Arena}
use Rattle.wcv_types.specs.CoreCalls.{with_core}
use Rattle.wcv_types.specs.Standing.{Extends, KeepsTrees}
use Rattle.wcv_types.proofs.CoreGrown.{total_more}
use Rattle.wcv_types.proofs.Grown.{extends_refl, keeps_trees}

-- ## Tables

-- the table of core types only grew
abbrev pub Grows : List Group → List Group → Type 0
Grows gs hs = (more : List Group) × (hs ≡ gs ++ more)

pub extended : (a b : Arena) → Extends a b → Grows a.core b.core
extended a b g = (g.groups, g.core)

-- ## Arenas of which the table alone grew

pub core_same : (a : Arena) → a ≡ with_core a a.core
core_same a = refl

pub core_on : (a b c : Arena) → b ≡ with_core a b.core → c ≡ with_core b c.core → c ≡ with_core a c.core
core_on a b c e f = f ∙ ap (λ (x : Arena). with_core x c.core) e

pub keeps_same : (a : Arena) → KeepsTrees a a
keeps_same a = keeps_trees a a (extends_refl a)

-- ## Entries

pub known_grows : (gs hs : List Group) (es : List Core_entry) → Grows gs hs → All (IsKnown (total gs)) es → All (IsKnown (total hs)) es
known_grows gs hs es w a = known_more (total gs) (total hs) es (total_more gs w.0 hs w.1) a

pub all_known_grows : (gs hs : List Group) (outers : List (List Core_entry)) → Grows gs hs → All (All (IsKnown (total gs))) outers → All (All (IsKnown (total hs))) outers
all_known_grows gs hs outers w a k d l = known_grows gs hs (get_or outers k d) w (a k d l)

pub known_named : (n : ℕ) (es : List Core_entry) (i t : ℕ) → All (IsKnown n) es → on_entry (slice_get es i) ≡ Some t → t < n
known_named n es i t a e = go (slice_get es i) refl e
  where
    go : (o : Option Core_entry) → slice_get es i ≡ o → on_entry o ≡ Some t → t < n
    go None f e = cc
    go (Some module_entry) f e = cc
    go (Some (sub_entry j)) f e =
        let h : i < length es = slice_get_within es i (sub_entry j) f in
        let same : j ≡ t = cc in
        subst (λ (u : ℕ). u < n) same (subst (IsKnown n) (get_or_from_slice_get es i (sub_entry j) module_entry f) (All-get_or (IsKnown n) es i module_entry h a))

known_there : (n : ℕ) (o : Option (List Core_entry)) (i t : ℕ) → ((es : List Core_entry) → o ≡ Some es → All (IsKnown n) es) → on_entry (at_index o i) ≡ Some t → t < n
known_there n None i t a e = cc
known_there n (Some es) i t a e = known_named n es i t (a es refl) e

known_around : (n : ℕ) (outers : List (List Core_entry)) (k : ℕ) (es : List Core_entry) → All (All (IsKnown n)) outers → slice_get outers k ≡ Some es → All (IsKnown n) es
known_around n outers k es a e =
    let h : k < length outers = slice_get_within outers k es e in
    subst (All (IsKnown n)) (get_or_from_slice_get outers k es [] e) (All-get_or (All (IsKnown n)) outers k [] h a)

-- what an alias names is of the table
pub known_alias : (n : ℕ) (outers : List (List Core_entry)) (m : Module_type) (k i t : ℕ) → All (IsKnown n) (module_entries m) → All (All (IsKnown n)) outers → aliased outers m k i ≡ Some t → t < n
known_alias n outers m zero i t a b e = known_named n (module_entries m) i t a e
known_alias n outers m (suc k) i t a b e = known_there n (slice_get outers k) i t (λ es f. known_around n outers k es b f) e

pub known_with : (n : ℕ) (m : Module_type) (t : ℕ) → t < n → All (IsKnown n) (module_entries m) → All (IsKnown n) (module_entries (with_type m t))
known_with n m t h a = subst (All (IsKnown n)) (sym (map-append type_entry m.types (record { index = t } ∷ []))) (known_push n t (module_entries m) h a)

pub alias_known : {M : Type 0} (r : Result (Unit {0}) (Error M)) (n : ℕ) (outers : List (List Core_entry)) (m p : Module_type) (k i : ℕ)
    → OnOk r (option_map (with_type m) (aliased outers m k i) ≡ Some p) → OnErr r (p ≡ m) → All (IsKnown n) (module_entries m) → All (All (IsKnown n)) outers → All (IsKnown n) (module_entries p)
alias_known (Err x) n outers m p k i ok err a b = subst (λ (q : Module_type). All (IsKnown n) (module_entries q)) (sym err) a
alias_known (Ok u) n outers m p k i ok err a b = go (aliased outers m k i) refl ok
  where
    go : (o : Option ℕ) → aliased outers m k i ≡ o → option_map (with_type m) o ≡ Some p → All (IsKnown n) (module_entries p)
    go None f e = cc
    go (Some t) f e =
        let same : with_type m t ≡ p = cc in
        subst (λ (q : Module_type). All (IsKnown n) (module_entries q)) same (known_with n m t (known_alias n outers m k i t a b f) a)
