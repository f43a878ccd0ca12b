-- The unfolding of a table.
use Rattle.std.proofs.Common.{◌≡◌, ℕ, zero, suc, ◌+◌, ◌-◌, ◌<◌, ◌≤◌, List, [], ◌∷◌, ◌++◌, length, get_or, All, Some, refl, sym, ◌∙◌, ap, arith, subst, length-append, inl, inr}
use Rattle.std.proofs.lemmas.List.FromFn.{length-map-range_with_len, get_or-map-range_with_len}
use Rattle.wcv_core.specs.CoreForm.{SubForm, Group}
use Rattle.wcv_core.specs.CoreGroups.{total, id_of, AreClosed}
use Rattle.wcv_core.specs.CoreIds.{ids_in_group, NamesOlder}
use Rattle.wcv_core.specs.CoreTable.{AreDistinct}
use Rattle.wcv_core.proofs.Rowing.{get_or-front, get_or-back}
use Rattle.wcv_closed.specs.NumberedIds.{numbered_from}
use Rattle.wcv_closed.specs.ClosedTable.{IsTable}
use Rattle.wcv_closed.specs.ClosedType.{Closed, closed_type, Closeds, and_then, no_closed, named, closed_in, types_in, closed_after, all_closed, closed, closed_at}
use Rattle.wcv_closed.proofs.Numbering.{group_told}
use Rattle.wcv_closed.proofs.Standing.{StandsAt, Place, place, names_older, found_stands, one_place}

-- ## Older types stay

length-types_in : (cs : List Closed) (g : Group) → length (types_in cs g) ≡ length g
length-types_in cs g = length-map-range_with_len (closed_in cs g) 0 (length g)

longer : (cs : List Closed) (g : Group) → length (cs ++ types_in cs g) ≡ length cs + length g
longer cs g = length-append cs (types_in cs g) ∙ ap (λ (n : ℕ). length cs + n) (length-types_in cs g)

pub length-closed_after : (cs : List Closed) (gs : List Group) → length (closed_after cs gs) ≡ length cs + total gs
length-closed_after cs [] = omega arith
length-closed_after cs (g ∷ gs) =
    let a : length (closed_after (cs ++ types_in cs g) gs) ≡ length (cs ++ types_in cs g) + total gs = length-closed_after (cs ++ types_in cs g) gs in
    let b : length (cs ++ types_in cs g) ≡ length cs + length g = longer cs g in
    a ∙ omega arith

pub stays : (cs : List Closed) (gs : List Group) (i : ℕ) → i < length cs → get_or (closed_after cs gs) i no_closed ≡ get_or cs i no_closed
stays cs [] i h = refl
stays cs (g ∷ gs) i h =
    stays (cs ++ types_in cs g) gs i (omega (arith, longer cs g)) ∙ get_or-front cs (types_in cs g) i no_closed h

pub after_both : (cs : List Closed) (gs hs : List Group) → closed_after cs (gs ++ hs) ≡ closed_after (closed_after cs gs) hs
after_both cs [] hs = refl
after_both cs (g ∷ gs) hs = after_both (cs ++ types_in cs g) gs hs

-- ## Ids of groups behind

-- groups that come behind change no closed form
pub closed_stays : (gs hs : List Group) (i : ℕ) → i < total gs → closed (gs ++ hs) i ≡ closed gs i
unfolding closed
closed_stays gs hs i h =
    ap (λ (cs : List Closed). get_or cs i no_closed) (after_both [] gs hs) ∙
    stays (all_closed gs) hs i (omega (arith, length-closed_after [] gs))

-- ## The same types by their ids

named_same : (cs ds : List Closed) (is : List ℕ) → All (λ i. get_or cs i no_closed ≡ get_or ds i no_closed) is → named cs is ≡ named ds is
named_same cs ds [] a = refl
named_same cs ds (i ∷ is) a =
    let h : get_or cs i no_closed ≡ get_or ds i no_closed = a 0 0 (omega arith) in
    let t : named cs is ≡ named ds is = named_same cs ds is (λ k d l. a (suc k) d (omega arith)) in
    λ j. and_then (h j) (t j)

pub closed_in-stays : (cs : List Closed) (gs : List Group) (g : Group) (k : ℕ) → NamesOlder (length cs) g → closed_in cs g k ≡ closed_in (closed_after cs gs) g k
closed_in-stays cs gs g k o =
    let t : named cs (ids_in_group g) ≡ named (closed_after cs gs) (ids_in_group g) = named_same cs (closed_after cs gs) (ids_in_group g) (λ j d l. sym (stays cs gs (get_or (ids_in_group g) j d) (o j d l))) in
    λ j. closed_type (numbered_from 0 g) (t j) k

-- ## What an id unfolds to

unfolds_after : (cs : List Closed) (gs : List Group) (n m : ℕ) (g : Group) (k : ℕ) → n ≡ length cs → AreClosed n gs → StandsAt n gs m g → k < length g
    → get_or (closed_after cs gs) (m + k) no_closed ≡ closed_in (closed_after cs gs) g k
unfolds_after cs [] n m g k e o s h = elim s [ ]
unfolds_after cs (x ∷ gs) n m g k e o (inl p) h =
    let a : m ≡ n = p.0 in
    let l : length g ≡ length x = ap (length {A = SubForm}) p.1 in
    let w : length (cs ++ types_in cs x) ≡ length cs + length x = longer cs x in
    let z : m + k - length cs ≡ k = omega arith in
    let y : NamesOlder (length cs) x = subst (λ (t : ℕ). NamesOlder t x) e o.0.older in
    stays (cs ++ types_in cs x) gs (m + k) (omega arith) ∙
    (get_or-back cs (types_in cs x) (m + k) no_closed (omega arith) ∙
    (get_or-map-range_with_len (closed_in cs x) 0 (length x) (m + k - length cs) k no_closed (omega arith) (omega arith) ∙
    (closed_in-stays cs (x ∷ gs) x k y ∙ ap (λ (t : Group). closed_in (closed_after cs (x ∷ gs)) t k) (sym p.1))))
unfolds_after cs (x ∷ gs) n m g k e o (inr s) h =
    unfolds_after (cs ++ types_in cs x) gs (n + length x) m g k (omega (arith, longer cs x)) o.1 s h

pub unfolds : (gs : List Group) (m : ℕ) (g : Group) (k : ℕ) → AreClosed 0 gs → StandsAt 0 gs m g → k < length g → closed gs (m + k) ≡ closed_at gs g k
unfolding closed closed_at
unfolds gs m g k o s h = unfolds_after [] gs 0 m g k refl o s h

pub found_unfolds : (gs : List Group) (g : Group) (m k : ℕ) → AreClosed 0 gs → id_of gs g ≡ Some m → k < length g → closed gs (m + k) ≡ closed_at gs g k
found_unfolds gs g m k o e h = unfolds gs m g k o (found_stands 0 gs m g e) h

-- ## Closed forms tell ids apart

named_told : (cs : List Closed) (b : ℕ) (is js : List ℕ) → ((i j : ℕ) → i < b → j < b → get_or cs i no_closed ≡ get_or cs j no_closed → i ≡ j)
    → All (λ i. i < b) is → All (λ i. i < b) js → named cs is ≡ named cs js → is ≡ js
named_told cs b [] [] f p q e = refl
named_told cs b [] (j ∷ js) f p q e = cc
named_told cs b (i ∷ is) [] f p q e = cc
named_told cs b (i ∷ is) (j ∷ js) f p q e =
    let h : i ≡ j = f i j (p 0 0 (omega arith)) (q 0 0 (omega arith)) (same_first (get_or cs i no_closed) (get_or cs j no_closed) (named cs is) (named cs js) e) in
    let t : is ≡ js = named_told cs b is js f (λ k d l. p (suc k) d (omega arith)) (λ k d l. q (suc k) d (omega arith)) (same_rest (get_or cs i no_closed) (get_or cs j no_closed) (named cs is) (named cs js) e) in
    λ k. h k ∷ t k
  where
    same_first : (c d : Closed) (cs ds : Closeds) → and_then c cs ≡ and_then d ds → c ≡ d
    same_first c d cs ds e = cc

    same_rest : (c d : Closed) (cs ds : Closeds) → and_then c cs ≡ and_then d ds → cs ≡ ds
    same_rest c d cs ds e = cc

same_group : (g h : Group) (cs ds : Closeds) (k l : ℕ) → closed_type g cs k ≡ closed_type h ds l → g ≡ h
same_group g h cs ds k l e = cc

same_names : (g h : Group) (cs ds : Closeds) (k l : ℕ) → closed_type g cs k ≡ closed_type h ds l → cs ≡ ds
same_names g h cs ds k l e = cc

same_position : (g h : Group) (cs ds : Closeds) (k l : ℕ) → closed_type g cs k ≡ closed_type h ds l → k ≡ l
same_position g h cs ds k l e = cc

all_below : (is : List ℕ) (m b : ℕ) → m ≤ b → All (λ i. i < m) is → All (λ i. i < b) is
all_below is m b h a k d l = let r : get_or is k d < m = a k d l in omega arith

-- two types at their places, whose groups and positions are one
one_id : (gs : List Group) (i j : ℕ) → AreDistinct gs → (x : Place 0 gs i) (y : Place 0 gs j) → x.group ≡ y.group → x.position ≡ y.position → i ≡ j
one_id gs i j d x y g k =
    let f : x.first ≡ y.first = one_place 0 gs x.first y.first y.group d (subst (λ (h : Group). StandsAt 0 gs x.first h) g x.stands) y.stands in
    omega (arith, x.is_at, y.is_at)

told_below : (gs : List Group) → AreClosed 0 gs → AreDistinct gs → (b i j : ℕ) → b ≤ total gs → i < b → j < b → closed gs i ≡ closed gs j → i ≡ j
unfolding closed closed_at
told_below gs o d zero i j t h k e = Prim.absurd (omega arith)
told_below gs o d (suc b) i j t h k e =
    let x : Place 0 gs i = place 0 gs i (omega arith) in
    let y : Place 0 gs j = place 0 gs j (omega arith) in
    let a : i ≡ x.first + x.position = omega (arith, x.is_at) in
    let c : j ≡ y.first + y.position = omega (arith, y.is_at) in
    let cs : List Closed = all_closed gs in
    let w = sym (unfolds gs x.first x.group x.position o x.stands x.within) ∙ (ap (closed gs) (sym a) ∙ (e ∙ (ap (closed gs) c ∙ unfolds gs y.first y.group y.position o y.stands y.within))) in
    let u : All (λ (n : ℕ). n < b) (ids_in_group x.group) = all_below (ids_in_group x.group) x.first b (omega arith) (names_older 0 gs x.first x.group o x.stands) in
    let v : All (λ (n : ℕ). n < b) (ids_in_group y.group) = all_below (ids_in_group y.group) y.first b (omega arith) (names_older 0 gs y.first y.group o y.stands) in
    let is : ids_in_group x.group ≡ ids_in_group y.group =
    named_told cs b (ids_in_group x.group) (ids_in_group y.group) (λ m n l r. told_below gs o d b m n (omega arith) l r) u v
    (same_names (numbered_from 0 x.group) (numbered_from 0 y.group) (named cs (ids_in_group x.group)) (named cs (ids_in_group y.group)) x.position y.position w) in
    one_id gs i j d x y
    (group_told x.group y.group (same_group (numbered_from 0 x.group) (numbered_from 0 y.group) (named cs (ids_in_group x.group)) (named cs (ids_in_group y.group)) x.position y.position w) is)
    (same_position (numbered_from 0 x.group) (numbered_from 0 y.group) (named cs (ids_in_group x.group)) (named cs (ids_in_group y.group)) x.position y.position w)

pub told : (gs : List Group) (i j : ℕ) → AreClosed 0 gs → AreDistinct gs → i < total gs → j < total gs → closed gs i ≡ closed gs j → i ≡ j
told gs i j o d p q e = told_below gs o d (total gs) i j (omega arith) p q e

pub one_in_table : (gs : List Group) (i j : ℕ) → IsTable gs → i < total gs → j < total gs → closed gs i ≡ closed gs j → i ≡ j
one_in_table gs i j t p q e = told gs i j t.closed t.distinct p q e

-- so over two tables
pub one_in_both : (gs hs : List Group) (i j k l : ℕ) → IsTable hs → k < total hs → l < total hs → closed gs i ≡ closed hs k → closed gs j ≡ closed hs l → i ≡ j → k ≡ l
one_in_both gs hs i j k l t p q e f s = told hs k l t.closed t.distinct p q (sym e ∙ (ap (closed gs) s ∙ f))

-- as many as types
pub count : (gs : List Group) → length (all_closed gs) ≡ total gs
count gs = let l : length (all_closed gs) ≡ 0 + total gs = length-closed_after [] gs in omega arith
