-- What aliases bring: entries that have what those of the open contexts have.
use Rattle.std.proofs.Common.{◌≡◌, ℕ, zero, suc, List, [], ◌∷◌, ◌++◌, refl, Bool, true, false, cond, ◌&&◌, Some, None}
use Rattle.std.specs.Prelude.{Option, All, slice_get, bytes_eq}
use Rattle.std.specs.Option.{option_and_then}
use Rattle.std.proofs.lemmas.List.Elements.{All-nil, All-head, All-tail, All-append}
use Rattle.wcv_core.specs.Names.{Name}
use Rattle.wcv_syntax.specs.declared.instance.ComponentAlias.{ComponentAlias}
use Rattle.wcv_syntax.specs.declared.instance.ComponentAlias.TheVariants as alias
use Rattle.wcv_syntax.specs.declared.instance.ComponentExternalKind.{ComponentExternalKind}
use Rattle.wcv_syntax.specs.declared.instance.ComponentOuterAliasKind.{ComponentOuterAliasKind}
use Rattle.wcv_syntax.specs.declared.instance.ComponentOuterAliasKind.TheVariants as outer
use Rattle.wcv_types.specs.Tree.{Text, Extern_name, Parts, sort, exports}
use Rattle.wcv_types.specs.Unfold.{Type_tree}
use Rattle.wcv_lower.specs.Aliases.{sort_named, instance_at, export_of, joining, export_alias_step, outer_items, outer_at, outer_joins, is_charged, concrete_at, charged, outer_alias_step, alias_step}
use Rattle.wcv_lower.specs.Checks.{same_sort}
use Rattle.wcv_lower.specs.Context.{in_types, in_instances, in_components, core_types, core_modules, at_distance}
use Rattle.wcv_lower.specs.Owned.{AllEntries, Everywhere}
use Rattle.wcv_lower.specs.Readers.{if_sort, first_named}
use Rattle.wcv_lower.specs.Step.{appends, core_appends, charges}
use Rattle.wcv_lower.specs.Trees.{tree_reader, Tree_context, Tree_stack}
use Rattle.wcv_lower.proofs.Bringing.{OfAny, any_at, any_cond, any_mapped, any_then, Brings, AllBring, brings_one, joins_bring, core_aliases_bring}
use Rattle.wcv_lower.proofs.InstancesBring.{exports_have}
use Rattle.wcv_lower.proofs.Owning.{Inherited}

module _ {P : Type_tree → Type 0} {In : Parts Name Name → Type 0} (law : Inherited P In) (New : Name → Type 0) where
  -- ## An instance's export

  abbrev Of : Extern_name × Type_tree → Type 0
  Of e = P e.1

  named_has : (n : Text) (es : List (Extern_name × Type_tree)) → All Of es → OfAny P (first_named n es)
  named_has n [] w = tt
  named_has n (e ∷ es) w = go (bytes_eq n e.0.name) (named_has n es (All-tail Of e es w))
    where
      go : (b : Bool) → OfAny P (first_named n es) → OfAny P (cond b (Some e.1) (first_named n es))
      go true later = All-head Of e es w
      go false later = later

  export_has : (n : Text) (t : Type_tree) → P t → OfAny P (export_of tree_reader n t)
  export_has n t w = named_has n (exports t) (exports_have law t w)

  module _ (s : Tree_stack) (all : Everywhere P s) where
    export_brings : (w : ComponentExternalKind) (i : ℕ) (n : Text) → OfAny (AllBring P New) (export_alias_step s.top w i n)
    export_brings w i n =
        let found : OfAny P (option_and_then (export_of tree_reader n) (instance_at s.top i)) =
        any_then P P (export_of tree_reader n) (export_has n) (instance_at s.top i) (any_at P (s.top.space in_instances) i ((all zero s.top refl).space in_instances)) in
        any_mapped P (AllBring P New) joining (λ x v. joins_bring law New false (sort x) x v) (option_and_then (if_sort tree_reader (sort_named w)) (option_and_then (export_of tree_reader n) (instance_at s.top i)))
        (any_then P P (if_sort tree_reader (sort_named w)) (λ x v. any_cond P (same_sort (sort_named w) (sort x)) x v) (option_and_then (export_of tree_reader n) (instance_at s.top i)) found)

    -- ## What stands further out

    items_out : (w : ComponentOuterAliasKind) (c : Tree_context) → AllEntries P c → All P (outer_items w c)
    items_out outer.CoreModule c a = a.core core_modules
    items_out outer.CoreType c a = a.core core_types
    items_out outer.Ty c a = a.space in_types
    items_out outer.Component c a = a.space in_components

    context_has : (n : ℕ) → OfAny (AllEntries P) (at_distance n s)
    context_has n = go (at_distance n s) (λ c e. all n c e)
      where
        go : (o : Option Tree_context) → ((c : Tree_context) → o ≡ Some c → AllEntries P c) → OfAny (AllEntries P) o
        go None h = tt
        go (Some c) h = h c refl

    joins_out : (w : ComponentOuterAliasKind) (x : Type_tree) → P x → AllBring P New (outer_joins w x)
    joins_out outer.CoreModule x v = brings_one P New (core_appends core_modules x) v
    joins_out outer.CoreType x v = brings_one P New (core_appends core_types x) v
    joins_out outer.Ty x v = brings_one P New (appends in_types x) v
    joins_out outer.Component x v = brings_one P New (appends in_components x) v

    charge_brings : (w : ComponentOuterAliasKind) (n : ℕ) (x : Type_tree) → AllBring P New (charged s w n x)
    charge_brings w zero x = All-nil (Brings P New)
    charge_brings w (suc n) x = go (is_charged w && concrete_at n s)
      where
        go : (b : Bool) → AllBring P New (cond b (charges n (tree_reader.size x) ∷ []) [])
        go true = brings_one P New (charges n (tree_reader.size x)) tt
        go false = All-nil (Brings P New)

    outer_brings : (w : ComponentOuterAliasKind) (n i : ℕ) → OfAny (AllBring P New) (outer_alias_step s w n i)
    outer_brings w n i =
        any_mapped P (AllBring P New) (λ x. charged s w n x ++ outer_joins w x) (λ x v. All-append (Brings P New) (charged s w n x) (outer_joins w x) (charge_brings w n x) (joins_out w x v)) (outer_at s w n i)
        (any_then (AllEntries P) P (λ c. slice_get (outer_items w c) i) (λ c a. any_at P (outer_items w c) i (items_out w c a)) (at_distance n s) (context_has n))

    pub aliases_bring : (x : ComponentAlias) → OfAny (AllBring P New) (alias_step s x)
    aliases_bring (alias.InstanceExport w i n) = export_brings w i n
    aliases_bring (alias.CoreInstanceExport w i n) = core_aliases_bring law New s.top w i n
    aliases_bring (alias.Outer w n i) = outer_brings w n i
