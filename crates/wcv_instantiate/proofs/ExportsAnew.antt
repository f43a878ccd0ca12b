-- Exports with what a map makes of each.
use Rattle.std.proofs.Common.{◌≡◌, ℕ, suc, ◌+◌, ◌≤◌, List, [], ◌∷◌, ◌++◌, length, take, refl, sym, ◌∙◌, ap, subst, arith, Some, All, take_all}
use Rattle.std.specs.Map.{keys_of}
use Rattle.std.specs.Prelude.{Contains, slice_get}
use Rattle.std.proofs.Math.Nat.{max-le}
use Rattle.std.proofs.lemmas.List.Elements.{All-contains, All-take, All-nil, All-cons, Contains-append_left, Contains-push}
use Rattle.std.proofs.lemmas.List.{length_push}
use Rattle.wcv_types.proofs.Grown.{extends_refl, extends_trans, stands_more, stands_rank, same_tree}
use Rattle.wcv_types.proofs.Lists.{take-next}
use Rattle.wcv_types.specs.Arena.{Arena}
use Rattle.wcv_types.specs.Entities.{entity_slot, entity_tree, entry_trees, retyped, SlotStands, EntryStands}
use Rattle.wcv_types.specs.Replacing.{Replacement, replaced, replaced_in}
use Rattle.wcv_types.specs.Standing.{Extends}
use Rattle.wcv_types.specs.Tree.{Text, Extern_name, export, type_of, entries, Parts, none, part}
use Rattle.wcv_types.specs.Unfold.{Type_tree, Slot, leaf, at, both, core, slot_refs, slot_tree, trees, tree_at}
use Rattle.wcv_types.specs.declared.item_map.ComponentItem.{ComponentItem}
use Rattle.wcv_types.specs.declared.shapes.ComponentEntityType.{ComponentEntityType}
use Rattle.wcv_core.specs.Names.{Name}
use Rattle.wcv_remap.proofs.Keeping.{longer}
use Rattle.wcv_remap.proofs.Maps.{visits_none, visits_more, visits_both, serves_earlier, each_push}
use Rattle.wcv_remap.specs.Entities.{top_rank, EntityHygienic, EntityRemapped}
use Rattle.wcv_remap.specs.Hygiene.{Hygienic}
use Rattle.wcv_remap.specs.Map.{Map}
use Rattle.wcv_remap.specs.Remap.{Each, Serves, Sound, Visits}
use Rattle.wcv_spaces.proofs.Walks.{found_holds}
use Rattle.wcv_instantiate.specs.Opening.{Items, Anything, EntryBecomes, ExportsRemapped, TypePushed, TypesRemapped, entry_rank, with_entity}

abbrev pub Item : Type 0
Item = Text × ComponentItem

abbrev pub Types : Type 0
Types = List ComponentEntityType

-- ## Slots in an arena that grew

pub slot_more : (a b : Arena) (s : Slot) → Extends a b → SlotStands a s → SlotStands b s
slot_more a b (leaf o) g h = tt
slot_more a b (at q) g h = stands_more a b q g h
slot_more a b (both c r) g h = (stands_more a b c g h.0, stands_more a b r g h.1)
slot_more a b (core e) g h = tt

pub slot_same : (a b : Arena) (s : Slot) → Extends a b → SlotStands a s → slot_tree (trees b.nodes) s ≡ slot_tree (trees a.nodes) s
slot_same a b (leaf o) g h = refl
slot_same a b (at q) g h = same_tree a b q g h
slot_same a b (both c r) g h =
    let e : tree_at b c ≡ tree_at a c = same_tree a b c g h.0 in
    let f : tree_at b r ≡ tree_at a r = same_tree a b r g h.1 in
    λ j. type_of (e j) (f j)
slot_same a b (core e) g h = refl

pub slot_rank : (a : Arena) (s : Slot) → SlotStands a s → top_rank (slot_refs s) ≤ length a.nodes
slot_rank a (leaf o) h = omega arith
slot_rank a (at q) h = max-le (stands_rank a q h) (omega arith)
slot_rank a (both c r) h = max-le (stands_rank a c h.0) (max-le (stands_rank a r h.1) (omega arith))
slot_rank a (core e) h = omega arith

-- ## One export

pub type_pushed : (a b : Arena) (map map' : Map) (s s' : ℕ) (x : Item) (y : ComponentEntityType) (old new : Types) → EntityRemapped a b map map' s s' x.1.ty y → new ≡ old ++ y ∷ [] → TypePushed a b map map' x old new
type_pushed a b map map' s s' x y old new r p = record {
  core = r.core;
  sound = r.sound;
  visits = visits_more (length a.nodes) (length a.nodes) (suc (entry_rank x)) (suc (entry_rank x)) map map' (omega arith) (omega arith) (λ q z. tt) r.visits;
  made = y;
  becomes = record { named = refl; stands = r.stands; tree = r.tree };
  pushed = p;
}

-- ## All exports

pub types_none : (a : Arena) (map : Map) → Sound a map → TypesRemapped a a map map [] []
types_none a map s = record { as_many = refl; exports = record { grown = extends_refl a; core = refl; sound = s; visits = λ k h. visits_none Anything (length a.nodes) k map; each = tt } }

-- what they become stays so in a later map
later : (a b c : Arena) (k : ℕ) (map map' : Map) (x y : Item) → Sound b map → Extends b c → Visits Anything (length b.nodes) k map map' → EntryBecomes a b map x y → EntryBecomes a c map' x y
later a b c k map map' x y s g v w = record {
  named = w.named;
  stands = slot_more b c (entity_slot y.1.ty) g w.stands;
  tree = λ m z. slot_same b c (entity_slot y.1.ty) g w.stands ∙ w.tree m (serves_earlier b c k map map' m s g v z);
}

all_later : (a b c : Arena) (k : ℕ) (map map' : Map) (xs ys : Items) → Sound b map → Extends b c → Visits Anything (length b.nodes) k map map' → Each (EntryBecomes a b map) xs ys → Each (EntryBecomes a c map') xs ys
all_later a b c k map map' [] [] s g v e = tt
all_later a b c k map map' (x ∷ xs) (y ∷ ys) s g v e = (later a b c k map map' x y s g v e.0, all_later a b c k map map' xs ys s g v e.1)
all_later a b c k map map' [] (y ∷ ys) s g v e = absurd e
all_later a b c k map map' (x ∷ xs) [] s g v e = absurd e

earlier : (a b c : Arena) (map : Map) (x y : Item) → Extends a b → EntryStands a x → EntryBecomes b c map x y → EntryBecomes a c map x y
earlier a b c map x y g st w = record { named = w.named; stands = w.stands; tree = λ m z. w.tree m z ∙ ap (replaced m) (slot_same a b (entity_slot x.1.ty) g st) }

-- one more entry with its type
retyped_push : (xs : Items) (ts : Types) (e : Item) (y : ComponentEntityType) → length ts ≡ length xs → retyped (xs ++ e ∷ []) (ts ++ y ∷ []) ≡ retyped xs ts ++ with_entity e y ∷ []
retyped_push [] [] e y h = refl
retyped_push (x ∷ xs) (t ∷ ts) e y h = ap (λ (es : Items). with_entity x t ∷ es) (retyped_push xs ts e y (omega (arith, h)))
retyped_push [] (t ∷ ts) e y h = absurd (omega (arith, h))
retyped_push (x ∷ xs) [] e y h = absurd (omega (arith, h))

types_push : (a b c : Arena) (m0 m1 m2 : Map) (xs : Items) (ts ts' : Types) (e : Item) → EntryStands a e → Extends b c → TypesRemapped a b m0 m1 xs ts → TypePushed b c m1 m2 e ts ts' → TypesRemapped a c m0 m2 (xs ++ e ∷ []) ts'
types_push a b c m0 m1 m2 xs ts ts' e st g w p =
    let ys : Items = retyped xs ts in
    let made : Item = with_entity e p.made in
    let pushed : retyped (xs ++ e ∷ []) ts' ≡ ys ++ made ∷ [] = ap (retyped (xs ++ e ∷ [])) p.pushed ∙ retyped_push xs ts e p.made w.as_many in
    record {
      as_many = ap length p.pushed ∙ length_push ts p.made ∙ ap (λ (n : ℕ). n + 1) w.as_many ∙ sym (length_push xs e);
      exports = record {
        grown = extends_trans a b c w.exports.grown g;
        core = p.core ∙ w.exports.core;
        sound = p.sound;
        visits = λ k h. visits_both k m0 m1 m2 (w.exports.visits k (λ x z. h x (Contains-append_left xs (e ∷ []) x z)))
            (visits_more (length b.nodes) (length a.nodes) (suc (entry_rank e)) k m1 m2 (longer a b w.exports.grown) (h e (Contains-push xs e)) (λ q z. z) p.visits);
        each = subst (λ (zs : Items). Each (EntryBecomes a c m2) (xs ++ e ∷ []) zs) (sym pushed)
            (each_push (EntryBecomes a c m2) xs ys e made (all_later a b c (suc (entry_rank e)) m1 m2 xs ys w.exports.sound g p.visits w.exports.each) (earlier a b c m2 e made w.exports.grown st p.becomes));
      };
    }

pub types_next : (a b c : Arena) (m0 m1 m2 : Map) (xs : Items) (ts ts' : Types) (k : ℕ) (e : Item) → slice_get xs k ≡ Some e → EntryStands a e → Extends b c → TypesRemapped a b m0 m1 (take k xs) ts → TypePushed b c m1 m2 e ts ts' →
    TypesRemapped a c m0 m2 (take (k + 1) xs) ts'
types_next a b c m0 m1 m2 xs ts ts' k e g st x w p =
    let s : suc k ≡ k + 1 = omega arith in
    subst (λ (zs : Items). TypesRemapped a c m0 m2 zs ts') (sym (take-next xs k e g) ∙ ap (λ (n : ℕ). take n xs) s) (types_push a b c m0 m1 m2 (take k xs) ts ts' e st x w p)

-- what the next export needs
pub next_hygienic : (a b : Arena) (m0 m1 : Map) (xs ys : Items) (e : Item) → Sound a m0 → EntryStands a e → EntityHygienic a m0 e.1.ty → ((x : Item) → Contains xs x → EntryStands a x) → ExportsRemapped a b m0 m1 xs ys → EntityHygienic b m1 e.1.ty
next_hygienic a b m0 m1 xs ys e s st h f w m z =
    let k : ℕ = suc (length a.nodes) in
    let v : Visits Anything (length a.nodes) k m0 m1 = w.visits k (λ x c. let r : entry_rank x ≤ length a.nodes = slot_rank a (entity_slot x.1.ty) (f x c) in omega (arith, r)) in
    subst (Hygienic m) (sym (slot_same a b (entity_slot e.1.ty) w.grown st)) (h m (serves_earlier a b k m0 m1 m s w.grown v z))

pub types_all : (a b : Arena) (m0 m1 : Map) (xs : Items) (ts : Types) (k : ℕ) → length xs ≤ k → TypesRemapped a b m0 m1 (take k xs) ts → TypesRemapped a b m0 m1 xs ts
types_all a b m0 m1 xs ts k h w = subst (λ (zs : Items). TypesRemapped a b m0 m1 zs ts) (take_all k xs h) w

pub exports_are_made : (a b : Arena) (m0 m1 : Map) (xs ys : Items) (ts : Types) → TypesRemapped a b m0 m1 xs ts → ys ≡ retyped xs ts → ExportsRemapped a b m0 m1 xs ys
exports_are_made a b m0 m1 xs ys ts w e = subst (ExportsRemapped a b m0 m1 xs) (sym e) w.exports

pub next_stands : (a b : Arena) (xs : Items) (k : ℕ) (e : Item) → Extends a b → All (EntryStands a) xs → slice_get xs k ≡ Some e → EntryStands b e
next_stands a b xs k e g h f = slot_more a b (entity_slot e.1.ty) g (found_holds (EntryStands a) xs k e h f)

pub next_is_hygienic : (a b : Arena) (m0 m1 : Map) (xs ys : Items) (k : ℕ) (e : Item) → Sound a m0 → All (EntryStands a) xs → All (λ (x : Item). EntityHygienic a m0 x.1.ty) xs → slice_get xs k ≡ Some e → ExportsRemapped a b m0 m1 (take k xs) ys → EntityHygienic b m1 e.1.ty
next_is_hygienic a b m0 m1 xs ys k e s st h f w =
    next_hygienic a b m0 m1 (take k xs) ys e s (found_holds (EntryStands a) xs k e st f) (found_holds (λ (x : Item). EntityHygienic a m0 x.1.ty) xs k e h f)
    (λ x c. All-contains (EntryStands a) (take k xs) x (All-take (EntryStands a) k xs st) c) w

-- ## Behind them

pub all_stand : (a b : Arena) (map : Map) (xs ys : Items) → Each (EntryBecomes a b map) xs ys → All (EntryStands b) ys
all_stand a b map [] [] e = All-nil (EntryStands b)
all_stand a b map (x ∷ xs) (y ∷ ys) e = All-cons (EntryStands b) y ys e.0.stands (all_stand a b map xs ys e.1)
all_stand a b map [] (y ∷ ys) e = absurd e
all_stand a b map (x ∷ xs) [] e = absurd e

pub same_names : (a b : Arena) (map : Map) (xs ys : Items) → Each (EntryBecomes a b map) xs ys → keys_of ys ≡ keys_of xs
same_names a b map [] [] e = refl
same_names a b map (x ∷ xs) (y ∷ ys) e =
    let name : y.0 ≡ x.0 = ap (λ (k : Extern_name). k.name) e.0.named in
    λ j. name j ∷ same_names a b map xs ys e.1 j
same_names a b map [] (y ∷ ys) e = absurd e
same_names a b map (x ∷ xs) [] e = absurd e

-- the exports of the new node are the old ones replaced
pub exports_are : (a b : Arena) (map : Map) (m : Replacement) (xs ys : Items) → Serves b map m → Each (EntryBecomes a b map) xs ys → replaced_in m (entries export (entry_trees (trees a.nodes) xs) none) ≡ entries export (entry_trees (trees b.nodes) ys) none
exports_are a b map m [] [] s e = refl
exports_are a b map m (x ∷ xs) (y ∷ ys) s e =
    let n = e.0.named in
    let t : entity_tree (trees b.nodes) y.1.ty ≡ replaced m (entity_tree (trees a.nodes) x.1.ty) = e.0.tree m s in
    let P : Extern_name → Type_tree → Parts Name Name → Parts Name Name = λ k u ps. part (export k) u ps in
    λ j. P (sym n j) (sym t j) (exports_are a b map m xs ys s e.1 j)
exports_are a b map m [] (y ∷ ys) s e = absurd e
exports_are a b map m (x ∷ xs) [] s e = absurd e

pub grown_none : (a : Arena) → Extends a a
grown_none a = extends_refl a
