-- What declarations add to the sections of a core module, one after another.
use Rattle.std.proofs.Common.{◌≡◌, ℕ, ◌+◌, ◌<◌, ◌≤◌, Some, None, Option, is_some, List, [], ◌∷◌, length, get_or, cond, drop, map, refl, sym, ap, ◌∙◌, arith}
use Rattle.std.specs.List.{count_by, filter_map, cons_option}
use Rattle.std.proofs.lemmas.List.Recursion.{is_count_by}
use Rattle.std.proofs.lemmas.List.{at_drop_more, at_drop_all}
use Rattle.wcv_syntax.specs.View.{code_decl_view}
use Rattle.wcv_syntax.specs.declared.core_section.ModuleDecl.{ModuleDecl}
use Rattle.wcv_encode.specs.Bytes.{Bytes, ◌⧺◌, each}
use Rattle.wcv_encode.specs.Modules.{entry, or_nothing, as_they_are}
use Rattle.wcv_encode.specs.declared.part.Part.{Part}
use Rattle.wcv_encode.proofs.Joins.{empty_join}

length_cons_option : {Y : Type 0} (o : Option Y) (ys : List Y) → length (cons_option o ys) ≡ cond (is_some o) (1 + length ys) (length ys)
length_cons_option None ys = refl
length_cons_option (Some y) ys = omega arith

pub entries_count : (p : Part) (ds : List ModuleDecl) → length (filter_map (entry p) (map code_decl_view ds)) ≡ count_by (λ d. is_some (entry p (code_decl_view d))) ds
entries_count p ds =
    is_count_by (λ xs. length (filter_map (entry p) (map code_decl_view xs))) (λ d. is_some (entry p (code_decl_view d))) refl (λ d xs. length_cons_option (entry p (code_decl_view d)) (filter_map (entry p) (map code_decl_view xs))) ds

each_cons : (o : Option Bytes) (bs : List Bytes) → each as_they_are (cons_option o bs) ≡ or_nothing o ⧺ each as_they_are bs
unfolding each
each_cons None bs = sym (empty_join (each as_they_are bs))
each_cons (Some b) bs = refl

-- the bytes of all that a list adds
abbrev pub added : Part → List ModuleDecl → Bytes
added p ds = each as_they_are (filter_map (entry p) (map code_decl_view ds))

added_more : (p : Part) (d : ModuleDecl) (ds : List ModuleDecl) → added p (d ∷ ds) ≡ or_nothing (entry p (code_decl_view d)) ⧺ added p ds
added_more p d ds = each_cons (entry p (code_decl_view d)) (filter_map (entry p) (map code_decl_view ds))

pub added_drop : (p : Part) (ds : List ModuleDecl) (i : ℕ) (d : ModuleDecl) → i < length ds → d ≡ get_or ds i d → added p (drop i ds) ≡ or_nothing (entry p (code_decl_view d)) ⧺ added p (drop (i + 1) ds)
added_drop p ds i d h e =
    at_drop_more (added p) ds i d h ∙ ap (λ x. added p (x ∷ drop (i + 1) ds)) (sym e) ∙ added_more p d (drop (i + 1) ds)

pub added_end : (p : Part) (ds : List ModuleDecl) (i : ℕ) → length ds ≤ i → added p (drop i ds) ≡ Some []
unfolding each
added_end p ds i h = at_drop_all (added p) ds i h
