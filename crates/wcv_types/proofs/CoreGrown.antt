-- A table of core types that grew at its end keeps what stood in it.
use Rattle.std.proofs.Common.{◌≡◌, ℕ, suc, ◌+◌, ◌<◌, ◌≤◌, List, [], ◌∷◌, ◌++◌, length, get_or, refl, sym, ◌∙◌, ap, subst, arith, append_assoc, append-nil, length-append, inl, inr}
use Rattle.std.specs.Prelude.{slice_get, All, Option, Some, None, Result, Ok, Err, OnOk, OnErr, IfErr}
use Rattle.std.proofs.Math.ListN.{get_or-append}
use Rattle.std.proofs.lemmas.List.Elements.{All-weaker, All-head, All-tail}
use Rattle.wcv_core.specs.CoreForm.{SubForm, Group, no_type}
use Rattle.wcv_core.specs.CoreGroups.{total, types_of, id_of, IsHeapWithin, IsValWithin}
use Rattle.wcv_core.specs.CoreMatching.{type_at}
use Rattle.wcv_core.specs.CoreSizes.{IsEntityWithin, entity_size, form_size}
use Rattle.wcv_core.specs.CoreJoining.{grown, IsLeft}
use Rattle.wcv_core.specs.CoreTable.{joined_to, with_group}
use Rattle.wcv_core.specs.Names.{Name, number, stamp, base, at, stamped, aside}
use Rattle.wcv_core.specs.declared.core_types.EntityType.{EntityType}
use Rattle.wcv_core.specs.declared.core_types.EntityType.TheVariants as entity
use Rattle.wcv_core.specs.declared.core_types.HeapType.{HeapType}
use Rattle.wcv_core.specs.declared.core_types.HeapType.TheVariants as heap
use Rattle.wcv_core.specs.declared.core_types.ValType.{ValType}
use Rattle.wcv_core.specs.declared.core_types.ValType.TheVariants as val
use Rattle.wcv_core.specs.declared.error.Error.{Error}
use Rattle.wcv_types.specs.Arena.{Arena}
use Rattle.wcv_types.specs.CoreCalls.{with_core}
use Rattle.wcv_types.specs.Resources.{owned_by}
use Rattle.wcv_types.specs.Standing.{Stands, Fits, AllFit, Extends, KeepsTrees, GaveResource, IsStated, core_items, cut, entity_sizes, kind_exported}
use Rattle.wcv_types.specs.Unfold.{Type_tree, capped, head_of, parts_of, trees}
use Rattle.wcv_types.specs.declared.arena.Node.{Node}
use Rattle.wcv_types.specs.declared.arena.Node.TheVariants as n
use Rattle.wcv_types.specs.declared.ids.Part.{Part}
use Rattle.wcv_types.specs.declared.ids.Part.TheVariants as p

-- ## Types

pub types_of-append : (gs hs : List Group) → types_of (gs ++ hs) ≡ types_of gs ++ types_of hs
types_of-append [] hs = refl
types_of-append (g ∷ gs) hs = ap (λ (ts : List SubForm). g ++ ts) (types_of-append gs hs) ∙ sym (append_assoc g (types_of gs) (types_of hs))

length-types_of : (gs : List Group) → length (types_of gs) ≡ total gs
length-types_of [] = refl
length-types_of (g ∷ gs) = length-append g (types_of gs) ∙ ap (λ (k : ℕ). length g + k) (length-types_of gs)

pub total-append : (gs hs : List Group) → total (gs ++ hs) ≡ total gs + total hs
total-append [] hs = omega arith
total-append (g ∷ gs) hs = let e : total (gs ++ hs) ≡ total gs + total hs = total-append gs hs in omega arith

-- there are more types
pub total_more : (gs hs ks : List Group) → ks ≡ gs ++ hs → total gs ≤ total ks
total_more gs hs ks e = let w : total ks ≡ total gs + total hs = ap total e ∙ total-append gs hs in omega arith

-- a type keeps its id
pub type_stays : (gs hs : List Group) (i : ℕ) → i < total gs → type_at (gs ++ hs) i ≡ type_at gs i
type_stays gs hs i h =
    ap (λ (ts : List SubForm). get_or ts i no_type) (types_of-append gs hs) ∙
    get_or-append (types_of gs) (types_of hs) no_type i (omega (arith, h, length-types_of gs))

-- ## Items

heap_more : (m k : ℕ) (x : HeapType) → m ≤ k → IsHeapWithin m 0 x → IsHeapWithin k 0 x
heap_more m k (heap.Abstract a) h w = tt
heap_more m k (heap.Index i) h w = w
heap_more m k (heap.Id i) h w = omega (arith, h, w)

val_more : (m k : ℕ) (x : ValType) → m ≤ k → IsValWithin m 0 x → IsValWithin k 0 x
val_more m k val.I32 h w = tt
val_more m k val.I64 h w = tt
val_more m k val.F32 h w = tt
val_more m k val.F64 h w = tt
val_more m k val.V128 h w = tt
val_more m k (val.Ref r) h w = heap_more m k r.heap h w

-- what an item names is of a table that has more types
pub entity_more : (m k : ℕ) (x : EntityType) → m ≤ k → IsEntityWithin m x → IsEntityWithin k x
entity_more m k (entity.Func t) h w = omega (arith, h, w)
entity_more m k (entity.Tag t) h w = omega (arith, h, w)
entity_more m k (entity.Table t) h w = heap_more m k t.element_type.heap h w
entity_more m k (entity.Memory t) h w = tt
entity_more m k (entity.Global g) h w = val_more m k g.content_type h w

pub entities_more : (m k : ℕ) (xs : List EntityType) → m ≤ k → All (IsEntityWithin m) xs → All (IsEntityWithin k) xs
entities_more m k xs h w = All-weaker (IsEntityWithin m) (IsEntityWithin k) (λ x l. entity_more m k x h l) xs w

-- what items name is there still
pub within_more : (gs hs : List Group) (es : List EntityType) → All (IsEntityWithin (total gs)) es → All (IsEntityWithin (total (gs ++ hs))) es
within_more gs hs es h = entities_more (total gs) (total (gs ++ hs)) es (total_more gs hs (gs ++ hs) refl) h

-- it counts the same
size_stays : (gs hs : List Group) (x : EntityType) → IsEntityWithin (total gs) x → entity_size (gs ++ hs) x ≡ entity_size gs x
size_stays gs hs (entity.Func t) w = ap (λ (s : SubForm). form_size s.inner) (type_stays gs hs t.index w)
size_stays gs hs (entity.Tag t) w = ap (λ (s : SubForm). form_size s.inner) (type_stays gs hs t.index w)
size_stays gs hs (entity.Table t) w = refl
size_stays gs hs (entity.Memory t) w = refl
size_stays gs hs (entity.Global g) w = refl

pub sizes_stay : (gs hs : List Group) (xs : List EntityType) → All (IsEntityWithin (total gs)) xs → entity_sizes (gs ++ hs) xs ≡ entity_sizes gs xs
sizes_stay gs hs [] w = refl
sizes_stay gs hs (x ∷ xs) w =
    let e : entity_size (gs ++ hs) x ≡ entity_size gs x = size_stays gs hs x (All-head (IsEntityWithin (total gs)) x xs w) in
    let f : entity_sizes (gs ++ hs) xs ≡ entity_sizes gs xs = sizes_stay gs hs xs (All-tail (IsEntityWithin (total gs)) x xs w) in
    λ j. e j + f j

pub sizes-append : (gs : List Group) (xs ys : List EntityType) → entity_sizes gs (xs ++ ys) ≡ entity_sizes gs xs + entity_sizes gs ys
sizes-append gs [] ys = omega arith
sizes-append gs (x ∷ xs) ys = omega (arith, sizes-append gs xs ys)

-- ## Nodes

pub stated_stays : (gs hs : List Group) (ts : List Type_tree) (x : Node) → All (IsEntityWithin (total gs)) (core_items x) → IsStated gs ts x → IsStated (gs ++ hs) ts x
stated_stays gs hs ts (n.Defined s) w h = tt
stated_stays gs hs ts (n.Func s) w h = tt
stated_stays gs hs ts (n.Instance s) w h = tt
stated_stays gs hs ts (n.Component s) w h = tt
stated_stays gs hs ts (n.Module s) w h = h ∙ ap (λ (k : ℕ). capped (suc k)) (sym (sizes_stay gs hs (core_items (n.Module s)) w))
stated_stays gs hs ts (n.CoreInstance s) w h = record {
  within = within_more gs hs (kind_exported ts s.kind) h.within;
  size_is = h.size_is ∙ ap (λ (k : ℕ). capped (suc k)) (sym (sizes_stay gs hs (kind_exported ts s.kind) h.within));
}

gave_core : (a : Arena) (gs : List Group) (r : Name) → GaveResource a r → GaveResource (with_core a gs) r
gave_core a gs (number k) h = h
gave_core a gs (stamp k) h = h
gave_core a gs (base x) h = h
gave_core a gs (at x r) h = h
gave_core a gs (stamped x) h = h
gave_core a gs (aside r) h = h

pub stands_core : (a : Arena) (hs : List Group) (q : Part) → Stands a q → Stands (with_core a (a.core ++ hs)) q
stands_core a hs (p.Resource r) s = record { resource = s.resource; stamp = s.stamp }
stands_core a hs (p.Func i) s = s
stands_core a hs (p.Defined i) s = s
stands_core a hs (p.Instance i) s = s
stands_core a hs (p.Component i) s = s
stands_core a hs (p.Module i) s = s
stands_core a hs (p.CoreInstance i) s = s
stands_core a hs (p.Core i) s = omega (arith, s, total_more a.core hs (a.core ++ hs) refl)

pub fits_core : (a : Arena) (hs : List Group) (x : Node) → Fits a x → Fits (with_core a (a.core ++ hs)) x
fits_core a hs x f = record {
  parts = All-weaker (Stands a) (Stands (with_core a (a.core ++ hs))) (λ q s. stands_core a hs q s) (parts_of x) f.parts;
  info = f.info;
  owned = All-weaker (GaveResource a) (GaveResource (with_core a (a.core ++ hs))) (λ r h. gave_core a (a.core ++ hs) r h) (owned_by (head_of (length a.nodes) x)) f.owned;
  led = f.led;
  within = entities_more (total a.core) (total (a.core ++ hs)) (core_items x) (total_more a.core hs (a.core ++ hs) refl) f.within;
  stated = stated_stays a.core hs (trees a.nodes) x f.within f.stated;
  apart = f.apart;
}

-- each node still fits
pub all_fit_core : (a : Arena) (hs gs : List Group) → gs ≡ a.core ++ hs → AllFit a → AllFit (with_core a gs)
all_fit_core a hs gs e f = subst (λ (ks : List Group). AllFit (with_core a ks)) (sym e) (λ k x s. fits_core (cut a k) hs x (f k x s))

-- ## What it grows by

-- one more group, unless it is there
pub joined : (gs : List Group) (g : Group) → (hs : List Group) × (with_group gs g ≡ gs ++ hs)
joined gs g = go (id_of gs g)
  where
    go : (o : Option ℕ) → (hs : List Group) × (joined_to o gs g ≡ gs ++ hs)
    go None = (g ∷ [], refl)
    go (Some i) = ([], sym (append-nil gs))

pub grown_by : (gs : List Group) (g : Group) → (hs : List Group) × (grown gs g ≡ gs ++ hs)
grown_by gs [] = ([], sym (append-nil gs))
grown_by gs (s ∷ ss) = joined gs (s ∷ ss)

pub extends_core : (a : Arena) (gs : List Group) → (hs : List Group) × (gs ≡ a.core ++ hs) → Extends a (with_core a gs)
extends_core a gs w = record { more = []; nodes = sym (append-nil a.nodes); groups = w.0; core = w.1; resources = omega arith; stamps = omega arith }

pub extends_same : (a : Arena) → Extends a a
extends_same a = extends_core a a.core ([], sym (append-nil a.core))

pub keeps_core : (a : Arena) (gs : List Group) → (hs : List Group) × (gs ≡ a.core ++ hs) → KeepsTrees a (with_core a gs)
keeps_core a gs w =
    record { stands = λ q s. subst (λ (ks : List Group). Stands (with_core a ks) q) (sym w.1) (stands_core a w.0 q s); trees = λ q s. refl }

-- of what joins only on success
pub joined_if : {T E : Type 0} (r : Result T E) (gs ks : List Group) (g : Group) → OnOk r (ks ≡ with_group gs g) → OnErr r (ks ≡ gs) → (hs : List Group) × (ks ≡ gs ++ hs)
joined_if (Ok x) gs ks g h k = let w = joined gs g in (w.0, h ∙ w.1)
joined_if (Err x) gs ks g h k = ([], k ∙ sym (append-nil gs))

-- of what may have joined where memory ended
pub grown_or_left : {M : Type 0} {S T : Type 0} (r : Result T (Error M)) (add : S → ℕ → S) (failed : S → S) (s t : S) (gs ks : List Group) (g : Group) →
    OnOk r (ks ≡ grown gs g) → IfErr r (IsLeft add failed s t gs ks g) → (hs : List Group) × (ks ≡ gs ++ hs)
grown_or_left (Ok x) add failed s t gs ks g h k = let w = grown_by gs g in (w.0, h ∙ w.1)
grown_or_left (Err x) add failed s t gs ks g h k = left k
  where
    left : IsLeft add failed s t gs ks g x → (hs : List Group) × (ks ≡ gs ++ hs)
    left (inl l) = ([], l.1 ∙ sym (append-nil gs))
    left (inr l) = let w = grown_by gs g in (w.0, l.1.0 ∙ w.1)

-- ## What the modules name

pub items_within : (a : Arena) → AllFit a → (k : ℕ) (x : Node) → slice_get a.nodes k ≡ Some x → All (IsEntityWithin (total a.core)) (core_items x)
items_within a f k x h = (f k x h).within
