-- What aliases do to the innermost context: they list no resource, and bring what stands in an instance or in a context further out. What
-- comes from around a component is of no resource of the contexts there.
use Rattle.std.proofs.Common.{◌≡◌, ℕ, zero, suc, List, [], ◌∷◌, ◌++◌, Bool, true, false, ◌&&◌, cond, refl, sym, ◌∙◌, subst, Some, inl, inr, bytes_eq}
use Rattle.std.specs.Prelude.{All, slice_get, Option}
use Rattle.std.specs.Option.{option_and_then}
use Rattle.std.proofs.lemmas.Bool.{false≢true}
use Rattle.std.proofs.lemmas.List.Elements.{All-nil, All-cons, All-append, All-head, All-tail}
use Rattle.wcv_core.specs.Names.{Name, Place}
use Rattle.wcv_syntax.specs.declared.instance.ComponentExternalKind.{ComponentExternalKind}
use Rattle.wcv_syntax.specs.declared.instance.ComponentOuterAliasKind.{ComponentOuterAliasKind}
use Rattle.wcv_syntax.specs.declared.instance.ComponentOuterAliasKind.TheVariants as outer
use Rattle.wcv_types.specs.Resources.{Free, FreeIn}
use Rattle.wcv_types.specs.Tree.{Text, Extern_name, is_instance, is_module, sort, exports, core_import, core_export, core_module, core_item, node, Parts, none, part}
use Rattle.wcv_types.proofs.Lists.{some-inj}
use Rattle.wcv_matching.specs.Formed.{IsItem, ItemsAlone}
use Rattle.wcv_matching.specs.Matching.{named}
use Rattle.wcv_lower.specs.Aliases.{sort_named, instance_at, export_of, joining, export_alias_step, outer_items, outer_at, outer_joins, is_charged, is_concrete_one, concrete_at, charged, escapes, outer_room, outer_alias_step, outer_alias_checks}
use Rattle.wcv_lower.specs.Checks.{IsFree, if_found}
use Rattle.wcv_lower.specs.Context.{in_types, in_instances, in_components, core_types, core_modules, is_concrete, at_distance, counts, exporting}
use Rattle.wcv_lower.specs.Owned.{AllEntries, Everywhere}
use Rattle.wcv_lower.specs.Readers.{if_sort, first_named}
use Rattle.wcv_lower.specs.Step.{appends, core_appends, charges, Step, change, apply}
use Rattle.wcv_lower.specs.Trees.{Type_tree, Entries, Tree_context, Tree_stack, tree_reader}
use Rattle.wcv_lower.proofs.Bringing.{Brings, AllBring, brings_one}
use Rattle.wcv_lower.proofs.Causes.{free_left}
use Rattle.wcv_lower.proofs.Given.{not_so}
use Rattle.wcv_growth.proofs.Bare.{OwnsNothing, IsBare, AreBare}
use Rattle.wcv_growth.proofs.Entering.{joins-same}
use Rattle.wcv_growth.proofs.FreeShows.{free-shows}
use Rattle.wcv_growth.proofs.Growing.{Ready, Does, SameLists, same-does}
use Rattle.wcv_growth.proofs.Known.{mapped-some, then-some, all-get, Within, Fine, created-fine, Any, joins-bring}
use Rattle.wcv_growth.proofs.Looking.{sorted-here}
use Rattle.wcv_growth.proofs.Near.{Near, NearIn, FineIn, AllFine, IsFine, near-further, fine-at, After, later-fine}
use Rattle.wcv_growth.proofs.Opened.{FreeAmong, instance-free}
use Rattle.wcv_growth.proofs.Sound.{IsSound, exports-sound}
use Rattle.wcv_growth.proofs.Tidy.{Known, TidyEntry}

-- ## What is found

-- what holds of each entry holds of the first of the name
pub first-has : (P : Type_tree → Type 0) (n : Text) (es : Entries) (t : Type_tree) → first_named n es ≡ Some t → All (λ (e : Extern_name × Type_tree). P e.1) es → P t
first-has P n [] t e w = cc
first-has P n (x ∷ es) t e w = go (bytes_eq n x.0.name) e (λ d. first-has P n es t d (All-tail (λ (e : Extern_name × Type_tree). P e.1) x es w))
  where
    go : (b : Bool) → cond b (Some x.1) (first_named n es) ≡ Some t → (first_named n es ≡ Some t → P t) → P t
    go true d later = subst P (some-inj d) (All-head (λ (e : Extern_name × Type_tree). P e.1) x es w)
    go false d later = later d

-- the export, and the instance that has it
pub record Found (s : Tree_stack) (i : ℕ) (n : Text) (x : Step tree_reader) : Type 0 where
  pub instance : Type_tree
  pub there : slice_get (s.top.space in_instances) i ≡ Some instance
  pub export : Type_tree
  pub first : first_named n (exports instance) ≡ Some export
  pub joins : joining export ≡ x

pub export-found : (s : Tree_stack) (w : ComponentExternalKind) (i : ℕ) (n : Text) (x : Step tree_reader) → export_alias_step s.top w i n ≡ Some x → Found s i n x
export-found s w i n x e =
    let m = mapped-some joining (option_and_then (if_sort tree_reader (sort_named w)) (option_and_then (export_of tree_reader n) (instance_at s.top i))) x e in
    let o = sorted-here (sort_named w) (option_and_then (export_of tree_reader n) (instance_at s.top i)) m.0 m.1 in
    let t = then-some (export_of tree_reader n) (instance_at s.top i) m.0 o.0 in
    record { instance = t.0; there = t.1; export = m.0; first = t.2; joins = m.2 }

-- what holds of each entry of a context holds of those that may be aliased
items-have : (P : Type_tree → Type 0) (w : ComponentOuterAliasKind) (c : Tree_context) → AllEntries P c → All P (outer_items w c)
items-have P outer.CoreModule c a = a.core core_modules
items-have P outer.CoreType c a = a.core core_types
items-have P outer.Ty c a = a.space in_types
items-have P outer.Component c a = a.space in_components

-- what holds of each entry of each open context holds of what stands further out
pub outer-has : (P : Type_tree → Type 0) (s : Tree_stack) (w : ComponentOuterAliasKind) (n i : ℕ) (t : Type_tree) → outer_at s w n i ≡ Some t → Everywhere P s → P t
outer-has P s w n i t e all =
    let c = then-some (λ (c : Tree_context). slice_get (outer_items w c) i) (at_distance n s) t e in
    all-get P (outer_items w c.0) i t (items-have P w c.0 (all n c.0 c.1)) c.2

abbrev pub outer_step : Tree_stack → ComponentOuterAliasKind → ℕ → Type_tree → Step tree_reader
outer_step s w n t = charged s w n t ++ outer_joins w t

pub outer-found : (s : Tree_stack) (w : ComponentOuterAliasKind) (n i : ℕ) (x : Step tree_reader) → outer_alias_step s w n i ≡ Some x → (t : Type_tree) × (outer_at s w n i ≡ Some t) × (outer_step s w n t ≡ x)
outer-found s w n i x e = mapped-some (outer_step s w n) (outer_at s w n i) x e

-- ## What is free there

-- nothing is free in a core module
item-closed : (t : Type_tree) → IsItem t → (r : Name) → Free r t → ⊥
item-closed t w r x = go (subst (λ (u : Type_tree). Free r u) w.1 x)
  where
    go : Free {I = Name} r (node (core_item w.0) none) → ⊥
    go (inl q) = q
    go (inr q) = q.1

items-closed : (ps : Parts Name Name) → ItemsAlone ps → (r : Name) → FreeIn r ps → ⊥
items-closed none w r x = absurd x
items-closed (part (core_import m n) t ps) w r (inl x) = item-closed t w.0 r x
items-closed (part (core_import m n) t ps) w r (inr x) = items-closed ps w.1 r x
items-closed (part (core_export n) t ps) w r (inl x) = item-closed t w.0 r x
items-closed (part (core_export n) t ps) w r (inr x) = items-closed ps w.1 r x
items-closed (part k t ps) w r x = absurd w

module-closed : (g : Known) (t : Type_tree) → sort t ≡ is_module → TidyEntry g t → Within (λ r. ⊥) t
module-closed g (node (core_module i n) ps) e w r (inl x) = absurd x
module-closed g (node (core_module i n) ps) e w r (inr x) = items-closed ps (w.1.0.formed tt) r x.1
module-closed g (node h ps) e w r x = cc

-- what a check of what is free does not find
unfound : (t : Type_tree) (b : Bool) → (b && tree_reader.has_free t) ≡ false → b ≡ true → Within (λ r. ⊥) t
unfound t true e k r x = false≢true (sym e ∙ free-shows [] t r x refl)
unfound t false e k r x = absurd (false≢true k)

-- where no context between is a component's, what is near there is near here
found-near : (w : ComponentOuterAliasKind) (i : ℕ) (t : Type_tree) (c : Tree_context) (cs : List Tree_context) (m : ℕ) → AllFine (c ∷ cs) → option_and_then (λ (c : Tree_context). slice_get (outer_items w c) i) (slice_get cs m) ≡ Some t → is_concrete_one (slice_get (c ∷ cs) m) ≡ false →
    Fine (NearIn c cs) t × (is_concrete c.kind ≡ false)
found-near w i t c [] m h e k = cc
found-near w i t c (d ∷ ds) zero h e k =
    let v : Fine (NearIn d ds) t = all-get (Fine (NearIn d ds)) (outer_items w d) i t (items-have (Fine (NearIn d ds)) w d h.1.0.entries) e in
    (((λ r x. near-further c d ds k r (v.0 r x)), v.1), k)
found-near w i t c (d ∷ ds) (suc m) h e k =
    let v = found-near w i t d ds m h.1 e k in
    let f : is_concrete c.kind ≡ false = not_so (is_concrete c.kind) (λ q. false≢true (sym v.1 ∙ h.0.around q)) in
    (((λ r x. near-further c d ds f r (v.0.0 r x)), v.0.1), f)

module _ (s : Tree_stack) (h : IsFine s) (g : Known) (y : Everywhere (TidyEntry g) s) (w : ComponentOuterAliasKind) (i : ℕ) (t : Type_tree) where
  -- nothing is free in what comes from around a component
  escaped : (m : ℕ) (c : Tree_context) (ds : List Tree_context) → IsFree (escapes s w (suc m) t) → concrete_at m s ≡ true → at_distance (suc m) s ≡ Some c → slice_get (outer_items w c) i ≡ Some t → FineIn c ds → Within (λ r. ⊥) t
  escaped m c ds free k e q f = go w free q
    where
      go : (v : ComponentOuterAliasKind) → IsFree (escapes s v (suc m) t) → slice_get (outer_items v c) i ≡ Some t → Within (λ r. ⊥) t
      go outer.CoreModule a b =
          module-closed g t (all-get (λ t. sort t ≡ is_module) (c.core core_modules) i t f.sorted.1 b) (all-get (TidyEntry g) (c.core core_modules) i t ((y (suc m) c e).core core_modules) b)
      go outer.CoreType a b = all-get (Within (λ r. ⊥)) (c.core core_types) i t f.sorted.2 b
      go outer.Ty a b = unfound t (concrete_at m s) a.0 k
      go outer.Component a b = unfound t (concrete_at m s) a.0 k

  -- what comes from further out is fine here, where the alias has no cause
  outer-fine : (n : ℕ) → IsFree (outer_alias_checks s w n i) → outer_at s w n i ≡ Some t → Fine (Near s) t
  outer-fine zero free e = all-get (Fine (Near s)) (outer_items w s.top) i t (items-have (Fine (Near s)) w s.top h.0.entries) e
  outer-fine (suc m) free e = go (concrete_at m s) refl
    where
      go : (b : Bool) → concrete_at m s ≡ b → Fine (Near s) t
      go false k = (found-near w i t s.top s.outer m h e k).0
      go true k =
          let c = then-some (λ (c : Tree_context). slice_get (outer_items w c) i) (at_distance (suc m) s) t e in
          let f = fine-at (s.top ∷ s.outer) (suc m) c.0 h c.1 in
          let q : IsFree (escapes s w (suc m) t) = free_left (escapes s w (suc m) t) (outer_room w (counts s.top)) (subst (λ (o : Option Type_tree). IsFree (if_found (escapes s w (suc m)) o ++ outer_room w (counts s.top))) e free.1.1) in
          let v : Fine (NearIn c.0 f.0) t = all-get (Fine (NearIn c.0 f.0)) (outer_items w c.0) i t (items-have (Fine (NearIn c.0 f.0)) w c.0 f.1.entries) c.2 in
          ((λ r x. absurd (escaped m c.0 f.0 q k c.1 c.2 f.1 r x)), v.1)

-- ## What is brought

module _ (E : Type_tree → Type 0) where
  out-brings : (w : ComponentOuterAliasKind) (t : Type_tree) → E t → AllBring E Any (outer_joins w t)
  out-brings outer.CoreModule t w = brings_one E Any (core_appends core_modules t) w
  out-brings outer.CoreType t w = brings_one E Any (core_appends core_types t) w
  out-brings outer.Ty t w = brings_one E Any (appends in_types t) w
  out-brings outer.Component t w = brings_one E Any (appends in_components t) w

  charge-brings : (s : Tree_stack) (w : ComponentOuterAliasKind) (n : ℕ) (t : Type_tree) → AllBring E Any (charged s w n t)
  charge-brings s w zero t = All-nil (Brings E Any)
  charge-brings s w (suc n) t = go (is_charged w && concrete_at n s)
    where
      go : (b : Bool) → AllBring E Any (cond b (charges n (tree_reader.size t) ∷ []) [])
      go true = brings_one E Any (charges n (tree_reader.size t)) tt
      go false = All-nil (Brings E Any)

  pub outer-brings : (s : Tree_stack) (w : ComponentOuterAliasKind) (n : ℕ) (t : Type_tree) → E t → AllBring E Any (outer_step s w n t)
  outer-brings s w n t v = All-append (Brings E Any) (charged s w n t) (outer_joins w t) (charge-brings s w n t) (out-brings w t v)

-- ## The lists

out-same : (w : ComponentOuterAliasKind) (t : Type_tree) (s : Tree_stack) → SameLists s.top (apply (outer_joins w t) s).top
out-same outer.CoreModule t s = record { imported = refl; defined = refl; imports = refl; exports = refl }
out-same outer.CoreType t s = record { imported = refl; defined = refl; imports = refl; exports = refl }
out-same outer.Ty t s = record { imported = refl; defined = refl; imports = refl; exports = refl }
out-same outer.Component t s = record { imported = refl; defined = refl; imports = refl; exports = refl }

charge-same : (k n : ℕ) (w : ComponentOuterAliasKind) (t : Type_tree) (s : Tree_stack) → SameLists s.top (apply (outer_joins w t) (change (charges k n) s)).top
charge-same zero n w t s =
    let h = out-same w t (change (charges zero n) s) in
    record { imported = h.imported; defined = h.defined; imports = h.imports; exports = h.exports }
charge-same (suc k) n w t s =
    let h = out-same w t (change (charges (suc k) n) s) in
    record { imported = h.imported; defined = h.defined; imports = h.imports; exports = h.exports }

outer-same : (s : Tree_stack) (w : ComponentOuterAliasKind) (n : ℕ) (t : Type_tree) → SameLists s.top (apply (outer_step s w n t) s).top
outer-same s w zero t = out-same w t s
outer-same s w (suc n) t = go (is_charged w && concrete_at n s)
  where
    go : (b : Bool) → SameLists s.top (apply (cond b (charges n (tree_reader.size t) ∷ []) [] ++ outer_joins w t) s).top
    go true = charge-same n (tree_reader.size t) w t s
    go false = out-same w t s

-- ## An instance's export

module _ (P : Name → Type 0) where
  entries-fine : (es : Entries) → ((r : Name) → FreeAmong r (named es) → P r) → All (λ (e : Extern_name × Type_tree). IsSound e.1) es → All (λ (e : Extern_name × Type_tree). Fine P e.1) es
  entries-fine [] f w = All-nil (λ (e : Extern_name × Type_tree). Fine P e.1)
  entries-fine (e ∷ es) f w =
      All-cons (λ (x : Extern_name × Type_tree). Fine P x.1) e es ((λ r x. f r (inl x)), All-head (λ (x : Extern_name × Type_tree). IsSound x.1) e es w)
      (entries-fine es (λ r x. f r (inr x)) (All-tail (λ (x : Extern_name × Type_tree). IsSound x.1) e es w))

  -- what is free in an export of an instance that owns nothing is free in the instance
  exports-fine : (t : Type_tree) → sort t ≡ is_instance → OwnsNothing t → Fine P t → All (λ (e : Extern_name × Type_tree). Fine P e.1) (exports t)
  exports-fine t e o w = entries-fine (exports t) (λ r x. w.0 r (instance-free t r e o x)) (exports-sound t w.1)

-- ## Steps

module _ (p : Place) (s : Tree_stack) (h : Ready p s) where
  joining-does : (t : Type_tree) → Fine (Near s) t → Does exporting p s (joining t)
  joining-does t w = same-does p s h (joining t) (joins-bring (Fine (After (joining t) s)) (created-fine (After (joining t) s)) false (sort t) t (later-fine (joining t) s t w)) (joins-same false (sort t) t s)

  pub export_alias-does : AreBare s.top → (w : ComponentExternalKind) (i : ℕ) (n : Text) (x : Step tree_reader) → export_alias_step s.top w i n ≡ Some x → Does exporting p s x
  export_alias-does bare w i n x e =
      let m = export-found s w i n x e in
      let t : Type_tree = m.instance in
      let fine : Fine (Near s) t = all-get (Fine (Near s)) (s.top.space in_instances) i t (h.fine.0.entries.space in_instances) m.there in
      let own : OwnsNothing t = (all-get IsBare (s.top.space in_instances) i t (bare.space in_instances) m.there).0 in
      let here : sort t ≡ is_instance = all-get (λ (t : Type_tree). sort t ≡ is_instance) (s.top.space in_instances) i t h.fine.0.sorted.0 m.there in
      subst (Does exporting p s) m.joins (joining-does m.export (first-has (Fine (Near s)) n (exports t) m.export m.first (exports-fine (Near s) t here own fine)))

  pub outer_alias-does : (g : Known) → Everywhere (TidyEntry g) s → (w : ComponentOuterAliasKind) (n i : ℕ) (x : Step tree_reader) → IsFree (outer_alias_checks s w n i) → outer_alias_step s w n i ≡ Some x → Does exporting p s x
  outer_alias-does g y w n i x free e =
      let m = outer-found s w n i x e in
      let z : Step tree_reader = outer_step s w n m.0 in
      subst (Does exporting p s) m.2 (same-does p s h z (outer-brings (Fine (After z s)) s w n m.0 (later-fine z s m.0 (outer-fine s h.fine g y w i m.0 n free m.1))) (outer-same s w n m.0))
