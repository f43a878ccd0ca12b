-- Limits of declarations, one after the other.
use Rattle.std.proofs.Common.{◌≡◌, ℕ, suc, ◌+◌, ◌<◌, ◌++◌, List, [], ◌∷◌, length, get_or, take, map, ap, refl, subst, ◌∙◌, inl, inr, Vec}
use Rattle.std.specs.declared.alloc.Global.{Global}
use Rattle.wcv_core.specs.Checks.{all_checks}
use Rattle.wcv_core.specs.Limits.{max_list}
use Rattle.wcv_core.specs.declared.error.Error.{Error}
use Rattle.wcv_core.proofs.Closing.{caused_right, caused_mapped, free_mapped}
use Rattle.wcv_syntax.specs.declared.component_type.ComponentTypeDeclaration.{ComponentTypeDeclaration}
use Rattle.wcv_syntax.specs.declared.component_type.ComponentType.TheVariants as ty
use Rattle.wcv_syntax.specs.declared.component_type.InstanceTypeDeclaration.{InstanceTypeDeclaration}
use Rattle.wcv_syntax.specs.Model.{Decl}
use Rattle.wcv_syntax.specs.View.{decls_of, type_view, component_decl_view, instance_decl_view}
use Rattle.wcv_syntax.proofs.Views.{type_view-Component, type_view-Instance}
use Rattle.wcv_lower.specs.Checks.{Checks, IsFree, too_many}
use Rattle.wcv_lower.specs.Declared.{decl_count, declared_left, decl_left, decls_left}
use Rattle.wcv_spaces.specs.Promises.{MemoryOrCausedBy}

-- what is left to the caller, of declarations in a list
abbrev pub list_left : {X : Type 0} → (X → Decl) → List X → Checks
list_left view ds = too_many max_list (length ds) ++ all_checks decl_left (map view ds)

count_of : {X : Type 0} (view : X → Decl) (ds : List X) → decl_count (decls_of (map view ds)) ≡ length ds
count_of view [] = refl
count_of view (d ∷ ds) = ap suc (count_of view ds)

each_left : (ds : List Decl) → decls_left (decls_of ds) ≡ all_checks decl_left ds
each_left [] = refl
each_left (d ∷ ds) = ap (λ (cs : Checks). decl_left d ++ cs) (each_left ds)

same_left : {X : Type 0} (view : X → Decl) (ds : List X) → too_many max_list (decl_count (decls_of (map view ds))) ++ decls_left (decls_of (map view ds)) ≡ list_left view ds
same_left view ds = λ j. too_many max_list (count_of view ds j) ++ each_left (map view ds) j

pub component_left : (ds : Vec ComponentTypeDeclaration Global) → declared_left (type_view (ty.Component ds)) ≡ list_left component_decl_view ds.items
component_left ds = ap declared_left (type_view-Component ds) ∙ same_left component_decl_view ds.items

pub instance_left : (ds : Vec InstanceTypeDeclaration Global) → declared_left (type_view (ty.Instance ds)) ≡ list_left instance_decl_view ds.items
instance_left ds = ap declared_left (type_view-Instance ds) ∙ same_left instance_decl_view ds.items

-- a declaration's cause is one of the list
pub left_caused : {M X : Type 0} (view : X → Decl) (ds : List X) (i : ℕ) (d : X) (offset : ℕ) (e : Error M) → i < length ds → d ≡ get_or ds i d → MemoryOrCausedBy (decl_left (view d)) offset e → MemoryOrCausedBy (list_left view ds) offset e
left_caused view ds i d offset e h is (inl m) = inl m
left_caused view ds i d offset e h is (inr c) = inr (caused_right (too_many max_list (length ds)) (all_checks decl_left (map view ds)) offset e (caused_mapped view decl_left ds i d offset e h is c))

-- one declaration more has none
pub left_free : {X : Type 0} (view : X → Decl) (ds : List X) (i : ℕ) (d : X) → i < length ds → d ≡ get_or ds i d → IsFree (all_checks decl_left (take i (map view ds))) → IsFree (decl_left (view d)) → IsFree (all_checks decl_left (take (i + 1) (map view ds)))
left_free view ds i d h is n m = free_mapped view decl_left ds i d h n (subst (λ (x : _). IsFree (decl_left (view x))) is m)
