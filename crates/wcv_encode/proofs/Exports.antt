-- What a core module exports, one after another, and the order of its declarations.
use Rattle.std.proofs.Common.{◌≡◌, ℕ, ◌+◌, ◌<◌, ◌≤◌, Bool, true, false, Some, None, Option, is_some, List, [], ◌∷◌, length, get_or, cond, nat_lt, drop, map, refl, sym, ap, ◌∙◌, arith}
use Rattle.std.specs.List.{count_by, cons_option}
use Rattle.std.proofs.lemmas.List.Recursion.{is_count_by}
use Rattle.std.proofs.lemmas.List.{at_drop_more, at_drop_all}
use Rattle.wcv_syntax.specs.Model.{Module_decl}
use Rattle.wcv_syntax.specs.View.{code_decl_view}
use Rattle.wcv_syntax.specs.declared.core_section.Export.{Export}
use Rattle.wcv_syntax.specs.declared.core_section.ExternalKind.{ExternalKind}
use Rattle.wcv_syntax.specs.declared.core_section.ExternalKind.TheVariants as kind
use Rattle.wcv_syntax.specs.declared.core_section.ModuleDecl.{ModuleDecl}
use Rattle.wcv_syntax.specs.declared.core_section.ModuleDecl.TheVariants as code
use Rattle.wcv_encode.specs.Bytes.{Bytes, ◌⧺◌, each, if_some}
use Rattle.wcv_encode.specs.Entries.{core_export}
use Rattle.wcv_encode.specs.Modules.{kind_of, count_of, one_more, no_items, next, export_at, exports_from, is_export_of, rank, is_ordered}
use Rattle.wcv_encode.specs.declared.counts.Counts.{Counts}
use Rattle.wcv_encode.proofs.Joins.{empty_join}

-- ## How much is exported

length_cons_option : (o : Option Export) (es : List Export) → length (cons_option o es) ≡ cond (is_some o) (1 + length es) (length es)
length_cons_option None es = refl
length_cons_option (Some e) es = omega arith

is_export_at : (c : Counts) (d : ModuleDecl) → is_some (export_at c (code_decl_view d)) ≡ is_export_of (code_decl_view d)
unfolding export_at
is_export_at c (code.Ty g) = refl
is_export_at c (code.Import i) = refl
is_export_at c (code.Export n t) = refl

-- how much declarations export
abbrev exports_len : List ModuleDecl → ℕ
exports_len [] = 0
exports_len (d ∷ ds) = cond (is_export_of (code_decl_view d)) (1 + exports_len ds) (exports_len ds)

count_from : (c : Counts) (ds : List ModuleDecl) → length (exports_from c (map code_decl_view ds)) ≡ exports_len ds
unfolding exports_from
count_from c [] = refl
count_from c (d ∷ ds) =
    length_cons_option (export_at c (code_decl_view d)) (exports_from (next c (code_decl_view d)) (map code_decl_view ds))
    ∙ ap (λ (b : Bool). cond b (1 + length (exports_from (next c (code_decl_view d)) (map code_decl_view ds))) (length (exports_from (next c (code_decl_view d)) (map code_decl_view ds)))) (is_export_at c d)
    ∙ ap (λ (m : ℕ). cond (is_export_of (code_decl_view d)) (1 + m) m) (count_from (next c (code_decl_view d)) ds)

pub exports_count : (ds : List ModuleDecl) → length (exports_from no_items (map code_decl_view ds)) ≡ count_by (λ d. is_export_of (code_decl_view d)) ds
exports_count ds =
    count_from no_items ds ∙ is_count_by exports_len (λ d. is_export_of (code_decl_view d)) refl (λ d xs. refl) ds

-- ## Their bytes

-- the bytes of all that is exported behind so many items
abbrev pub exported_from : Counts → List ModuleDecl → Bytes
exported_from c ds = each core_export (exports_from c (map code_decl_view ds))

each_cons : (o : Option Export) (es : List Export) → each core_export (cons_option o es) ≡ if_some core_export o ⧺ each core_export es
unfolding each if_some
each_cons None es = sym (empty_join (each core_export es))
each_cons (Some e) es = refl

exported_more : (c : Counts) (d : ModuleDecl) (ds : List ModuleDecl) → exported_from c (d ∷ ds) ≡ if_some core_export (export_at c (code_decl_view d)) ⧺ exported_from (next c (code_decl_view d)) ds
unfolding exports_from
exported_more c d ds = each_cons (export_at c (code_decl_view d)) (exports_from (next c (code_decl_view d)) (map code_decl_view ds))

pub exported_drop : (c : Counts) (ds : List ModuleDecl) (i : ℕ) (d : ModuleDecl) → i < length ds → d ≡ get_or ds i d → exported_from c (drop i ds) ≡ if_some core_export (export_at c (code_decl_view d)) ⧺ exported_from (next c (code_decl_view d)) (drop (i + 1) ds)
exported_drop c ds i d h e =
    at_drop_more (exported_from c) ds i d h ∙ ap (λ x. exported_from c (x ∷ drop (i + 1) ds)) (sym e) ∙ exported_more c d (drop (i + 1) ds)

pub exported_end : (c : Counts) (ds : List ModuleDecl) (i : ℕ) → length ds ≤ i → exported_from c (drop i ds) ≡ Some []
unfolding each exports_from
exported_end c ds i h = at_drop_all (exported_from c) ds i h

-- ## How many items there are

more_of : (k j : ExternalKind) (c : Counts) (n : ℕ) → ((l : ExternalKind) → count_of c l ≤ n) → count_of (one_more k c) j ≤ n + 1
unfolding count_of one_more
more_of kind.Func kind.Func c n h = omega (arith, h kind.Func)
more_of kind.Func kind.Table c n h = omega (arith, h kind.Table)
more_of kind.Func kind.Memory c n h = omega (arith, h kind.Memory)
more_of kind.Func kind.Global c n h = omega (arith, h kind.Global)
more_of kind.Func kind.Tag c n h = omega (arith, h kind.Tag)
more_of kind.Table kind.Func c n h = omega (arith, h kind.Func)
more_of kind.Table kind.Table c n h = omega (arith, h kind.Table)
more_of kind.Table kind.Memory c n h = omega (arith, h kind.Memory)
more_of kind.Table kind.Global c n h = omega (arith, h kind.Global)
more_of kind.Table kind.Tag c n h = omega (arith, h kind.Tag)
more_of kind.Memory kind.Func c n h = omega (arith, h kind.Func)
more_of kind.Memory kind.Table c n h = omega (arith, h kind.Table)
more_of kind.Memory kind.Memory c n h = omega (arith, h kind.Memory)
more_of kind.Memory kind.Global c n h = omega (arith, h kind.Global)
more_of kind.Memory kind.Tag c n h = omega (arith, h kind.Tag)
more_of kind.Global kind.Func c n h = omega (arith, h kind.Func)
more_of kind.Global kind.Table c n h = omega (arith, h kind.Table)
more_of kind.Global kind.Memory c n h = omega (arith, h kind.Memory)
more_of kind.Global kind.Global c n h = omega (arith, h kind.Global)
more_of kind.Global kind.Tag c n h = omega (arith, h kind.Tag)
more_of kind.Tag kind.Func c n h = omega (arith, h kind.Func)
more_of kind.Tag kind.Table c n h = omega (arith, h kind.Table)
more_of kind.Tag kind.Memory c n h = omega (arith, h kind.Memory)
more_of kind.Tag kind.Global c n h = omega (arith, h kind.Global)
more_of kind.Tag kind.Tag c n h = omega (arith, h kind.Tag)

pub next_of : (d : ModuleDecl) (c : Counts) (n : ℕ) → ((l : ExternalKind) → count_of c l ≤ n) → (j : ExternalKind) → count_of (next c (code_decl_view d)) j ≤ n + 1
unfolding next
next_of (code.Ty g) c n h j = omega (arith, h j)
next_of (code.Import i) c n h j = more_of (kind_of i.ty) j c n h
next_of (code.Export m t) c n h j = more_of (kind_of t) j c n h

pub none_of : (j : ExternalKind) → count_of no_items j ≡ 0
unfolding count_of
none_of kind.Func = refl
none_of kind.Table = refl
none_of kind.Memory = refl
none_of kind.Global = refl
none_of kind.Tag = refl

-- ## Order

ordered_more : (least : ℕ) (d : ModuleDecl) (ds : List Module_decl) → is_ordered least (code_decl_view d ∷ ds) ≡ cond (nat_lt (rank (code_decl_view d)) least) false (is_ordered (rank (code_decl_view d)) ds)
unfolding is_ordered
ordered_more least (code.Ty g) ds = refl
ordered_more least (code.Import i) ds = refl
ordered_more least (code.Export n t) ds = refl

pub ordered_drop : (least : ℕ) (ds : List ModuleDecl) (i : ℕ) (d : ModuleDecl) → i < length ds → d ≡ get_or ds i d → is_ordered least (map code_decl_view (drop i ds)) ≡ cond (nat_lt (rank (code_decl_view d)) least) false (is_ordered (rank (code_decl_view d)) (map code_decl_view (drop (i + 1) ds)))
ordered_drop least ds i d h e =
    at_drop_more (λ xs. is_ordered least (map code_decl_view xs)) ds i d h ∙ ap (λ x. is_ordered least (map code_decl_view (x ∷ drop (i + 1) ds))) (sym e) ∙ ordered_more least d (map code_decl_view (drop (i + 1) ds))

pub ordered_end : (least : ℕ) (ds : List ModuleDecl) (i : ℕ) → length ds ≤ i → is_ordered least (map code_decl_view (drop i ds)) ≡ true
unfolding is_ordered
ordered_end least ds i h = at_drop_all (λ xs. is_ordered least (map code_decl_view xs)) ds i h
