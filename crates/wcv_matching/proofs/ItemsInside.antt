-- Of the rule of core items matching asks nothing but what it says of the items inside the two types.
use Rattle.std.proofs.Common.{◌≡◌, ℕ, zero, suc, List, Bool, true, subst, sym, ⊎_elim, bytes_eq, ◌++◌}
use Rattle.std.specs.Prelude.{Contains, All}
use Rattle.std.proofs.lemmas.List.Elements.{All-contains, All-nil}
use Rattle.std.proofs.lemmas.Map.Views.{Contains-from_lookup}
use Rattle.wcv_core.specs.CoreForm.{Group}
use Rattle.wcv_core.specs.CoreGroups.{total}
use Rattle.wcv_core.specs.CoreSizes.{IsEntityWithin}
use Rattle.wcv_core.specs.Names.{Name}
use Rattle.wcv_core.specs.declared.core_types.EntityType.{EntityType}
use Rattle.wcv_types.specs.Tree.{Text, node, nothing, first_part, rest_parts, parts, Parts, none, part, Sort, is_instance, is_component, is_type, is_module, sort, referenced}
use Rattle.wcv_types.specs.Unfold.{Type_tree}
use Rattle.wcv_closed.specs.ClosedItems.{ItemMatches}
use Rattle.wcv_closed.specs.ClosedValue.{closed_item}
use Rattle.wcv_closed.specs.CoreModules.{Module_items, ModuleMatches, EachItem, same_pair}
use Rattle.wcv_closed.specs.Found.{EachFound}
use Rattle.wcv_closed.proofs.ModuleMatching.{same_text, same_names}
use Rattle.wcv_closed.proofs.Telling.{item_stays}
use Rattle.wcv_matching.specs.Matching.{Item_rule, Reading, MatchAs, MatchBelow, Matches, OpensImports, opened_by, named_exports, named_imports}
use Rattle.wcv_matching.specs.ModuleItems.{ItemsMatch, module_items}
use Rattle.wcv_matching.specs.Orderly.{EachModule, EachNodeIn, items_in}
use Rattle.wcv_matching.proofs.Found.{both_carried}
use Rattle.wcv_matching.proofs.MatchingOrder.{second-part}
use Rattle.wcv_matching.proofs.TreeParts.{EachPart, at_export, at_import}

-- ## Entries and modules

module _ {K : Type 0} (same : K → K → Bool) (one : (a b : K) → same a b ≡ true → a ≡ b) where
  each-carried : {X Y : Type 0} (R S : X → Y → Type 0) (xs : List (K × X)) (ys : List (K × Y)) → ((k : K) (x : X) (y : Y) → Contains xs (k, x) → Contains ys (k, y) → R x y → S x y) → EachFound same R xs ys → EachFound same S xs ys
  each-carried R S xs ys m e k y c = let f = e k y c in (f.0, f.1, m k f.0 y (Contains-from_lookup one k f.0 xs f.1) c f.2)

  items-carried : {E : Type 0} (C D : E → E → Type 0) (Q : E → Type 0) → ((x y : E) → Q x → Q y → C x y → D x y) → (xs ys : List (K × E)) → All (λ (e : K × E). Q e.1) xs → All (λ (e : K × E). Q e.1) ys →
      EachFound same C xs ys → EachFound same D xs ys
  items-carried {E} C D Q m xs ys a b e = each-carried C D xs ys (λ k x y c c' r. m x y (All-contains (λ (e : K × E). Q e.1) xs (k, x) a c) (All-contains (λ (e : K × E). Q e.1) ys (k, y) b c') r) e

pub modules-carried : {E : Type 0} (C D : E → E → Type 0) (Q : E → Type 0) → ((x y : E) → Q x → Q y → C x y → D x y) → (m n : Module_items E) → EachItem Q m → EachItem Q n → ModuleMatches C m n → ModuleMatches D m n
modules-carried C D Q k m n a b w = record {
  imports = items-carried same_pair same_names C D Q k n.imports m.imports b.imports a.imports w.imports;
  exports = items-carried bytes_eq same_text C D Q k m.exports n.exports a.exports b.exports w.exports;
}

-- ## Types

module _ (Q : EntityType → Type 0) where
  -- Q holds of each item inside the tree
  abbrev Inside : Type_tree → Type 0
  Inside t = EachModule (EachItem Q) t

  each-inside : (ps : Parts Name Name) → EachNodeIn (λ h qs. EachItem Q (items_in qs)) ps → EachPart Inside ps
  each-inside none e = tt
  each-inside (part r t ps) e = (e.0, each-inside ps e.1)

  parts-inside : (t : Type_tree) → Inside t → EachPart Inside (parts t)
  parts-inside (node h ps) i = each-inside ps i.1

  module-inside : (t : Type_tree) → Inside t → EachItem Q (module_items t)
  module-inside (node h ps) i = i.0

  nothing-inside : Inside (node nothing none)
  nothing-inside = (record { imports = All-nil _; exports = All-nil _ }, tt)

  referenced-inside : (t : Type_tree) → Inside t → Inside (referenced t)
  referenced-inside (node h ps) i =
      ⊎_elim (λ (w : Inside (first_part (rest_parts ps))). w) (λ (e : first_part (rest_parts ps) ≡ node nothing none). subst Inside (sym e) nothing-inside)
      (second-part Inside ps (each-inside ps i.1))

  pub export-inside : (t : Type_tree) → Inside t → (n : Text) (x : Type_tree) → Contains (named_exports t) (n, x) → Inside x
  export-inside t i n x c = at_export Inside (parts t) (parts-inside t i) n x c

  pub import-inside : (t : Type_tree) → Inside t → (n : Text) (x : Type_tree) → Contains (named_imports t) (n, x) → Inside x
  import-inside t i n x c = at_import Inside (parts t) (parts-inside t i) n x c

  module _ (C D : Item_rule) (k : (x y : EntityType) → Q x → Q y → C x y → D x y) where
    as-carried : (d : ℕ) → ((A : Type 0) (f g : Reading A) (a b : Type_tree) → Inside a → Inside b → MatchBelow C d A f g a b → MatchBelow D d A f g a b) → (s : Sort) (A : Type 0) (f g : Reading A) (a b : Type_tree) →
        Inside a → Inside b → MatchAs C (MatchBelow C d) s A f g a b → MatchAs D (MatchBelow D d) s A f g a b
    as-carried d ih is_instance A f g a b i j m =
        each-carried bytes_eq same_text _ _ (named_exports a) (named_exports b) (λ n x y c c' r. ih _ _ _ x y (export-inside a i n x c) (export-inside b j n y c') r) m
    as-carried d ih is_type A f g a b i j m =
        let u = referenced-inside a i in
        let v = referenced-inside b j in
        (ih A f g _ _ u v m.0, ih A g f _ _ v u m.1, m.2)
    as-carried d ih is_component A f g a b i j m = (
      m.0,
      m.1,
      each-carried bytes_eq same_text _ _ (named_imports b) (named_imports a) (λ n x y c c' r. ih _ _ _ x y (import-inside b j n x c) (import-inside a i n y c') r) m.2,
      each-carried bytes_eq same_text _ _ (named_exports a) (named_exports b) (λ n x y c c' r. ih _ _ _ x y (export-inside a i n x c) (export-inside b j n y c') r) m.3,
    )
    as-carried d ih is_module A f g a b i j m = modules-carried C D Q k (module_items a) (module_items b) (module-inside a i) (module-inside b j) m
    as-carried d ih _ A f g a b i j m = m

    pub below-carried : (d : ℕ) (A : Type 0) (f g : Reading A) (a b : Type_tree) → Inside a → Inside b → MatchBelow C d A f g a b → MatchBelow D d A f g a b
    below-carried zero A f g a b i j m = m
    below-carried (suc d) A f g a b i j m = (m.0, as-carried d (below-carried d) (sort a) A f g a b i j m.1)

    pub matching-carried : (a b : Type_tree) → Inside a → Inside b → Matches C a b → Matches D a b
    matching-carried a b i j m = (m.0, below-carried m.0 Name (λ r. r) (λ r. r) a b i j m.1)

    pub opening-carried : (s : Name → Name) (args : List (Text × Type_tree)) (c : Type_tree) → ((n : Text) (x : Type_tree) → Contains args (n, x) → Inside x) → Inside c → OpensImports C s args c → OpensImports D s args c
    opening-carried s args c i j o =
        each-carried bytes_eq same_text _ _ args (named_imports c) (λ n x y l l' r. (r.0, below-carried r.0 Name (λ r. r) (opened_by s c) x y (i n x l) (import-inside c j n y l') r.1)) o

-- ## Over a table that grows

module _ (gs hs : List Group) where
  behind : (x : EntityType) → IsEntityWithin (total gs) x → closed_item (gs ++ hs) x ≡ closed_item gs x
  behind = item_stays gs hs

  pub items_stay : (x y : EntityType) → IsEntityWithin (total gs) x → IsEntityWithin (total gs) y → ItemsMatch gs x y → ItemsMatch (gs ++ hs) x y
  items_stay x y v w m = both_carried ItemMatches _ _ _ _ (sym (behind x v)) (sym (behind y w)) m

  pub items_stood : (x y : EntityType) → IsEntityWithin (total gs) x → IsEntityWithin (total gs) y → ItemsMatch (gs ++ hs) x y → ItemsMatch gs x y
  items_stood x y v w m = both_carried ItemMatches _ _ _ _ (behind x v) (behind y w) m
