-- Recorded paths still lead where a node is made again with rebuilt parts.
use Rattle.std.proofs.Common.{◌≡◌, ℕ, zero, suc, List, [], ◌∷◌, Bool, true, false, cond, ◌||◌, refl, ap, sym, subst, ◌∙◌, arith, All, get_or, length, ◌<◌, inl, inr}
use Rattle.std.specs.Prelude.{Option, Some, None, slice_get, Contains}
use Rattle.std.proofs.lemmas.List.Elements.{All-contains_itself}
use Rattle.wcv_core.proofs.Names.{same-refl}
use Rattle.wcv_core.specs.Names.{Name, same, member}
use Rattle.wcv_types.proofs.Replacing.{unmoved}
use Rattle.wcv_types.specs.Led.{HasPath, HeadLed}
use Rattle.wcv_types.specs.Paths.{IsTypeOf, IsWayTo, PathLeadsTo}
use Rattle.wcv_types.specs.Replacing.{Replacement, given_at, given_or, new_resource, moved, moves, changed_in, new_head, replaced, replaced_in}
use Rattle.wcv_types.specs.Resources.{owns, RefersTo, Free, FreeIn}
use Rattle.wcv_types.specs.Tree.{Extern_name, Head, nothing, primitive, resource, defined, func, instance, component, type_entity, core_module, core_instance, core_type, core_item, here, label, import, export, core_import, core_export, Tree, node, Parts, none, part, head, parts, exports, exports_in, imports_in, firsts}
use Rattle.wcv_remap.specs.Hygiene.{Apart, ApartIn}

abbrev pub Entries : Type 0
Entries = List (Extern_name × Tree Name Name)

-- each entry replaced
abbrev pub over : (Tree Name Name → Tree Name Name) → Entries → Entries
over f [] = []
over f (e ∷ es) = (e.0, f e.1) ∷ over f es

exports_replaced : (m : Replacement) (ps : Parts Name Name) → exports_in (replaced_in m ps) ≡ over (replaced m) (exports_in ps)
exports_replaced m none = refl
exports_replaced m (part (export n) t ps) = ap (λ (es : Entries). (n, replaced m t) ∷ es) (exports_replaced m ps)
exports_replaced m (part here t ps) = exports_replaced m ps
exports_replaced m (part (label n) t ps) = exports_replaced m ps
exports_replaced m (part (import n) t ps) = exports_replaced m ps
exports_replaced m (part (core_import n l) t ps) = exports_replaced m ps
exports_replaced m (part (core_export n) t ps) = exports_replaced m ps

imports_replaced : (m : Replacement) (ps : Parts Name Name) → imports_in (replaced_in m ps) ≡ over (replaced m) (imports_in ps)
imports_replaced m none = refl
imports_replaced m (part (import n) t ps) = ap (λ (es : Entries). (n, replaced m t) ∷ es) (imports_replaced m ps)
imports_replaced m (part here t ps) = imports_replaced m ps
imports_replaced m (part (label n) t ps) = imports_replaced m ps
imports_replaced m (part (export n) t ps) = imports_replaced m ps
imports_replaced m (part (core_import n l) t ps) = imports_replaced m ps
imports_replaced m (part (core_export n) t ps) = imports_replaced m ps

get_over : (m : Replacement) (es : Entries) (k : ℕ) (e : Extern_name × Tree Name Name) → slice_get es k ≡ Some e → slice_get (over (replaced m) es) k ≡ Some (e.0, replaced m e.1)
get_over m [] k e h = cc
get_over m (x ∷ es) zero e h = let f : x ≡ e = cc in ap (λ (z : Extern_name × Tree Name Name). Some (z.0, replaced m z.1)) f
get_over m (x ∷ es) (suc k) e h = get_over m es k e h

-- each entry is a part
abbrev pub EachEntry : (Tree Name Name → Type 0) → Entries → Type 0
EachEntry P [] = Unit {0}
EachEntry P (e ∷ es) = P e.1 × EachEntry P es

at_entry : (P : Tree Name Name → Type 0) (es : Entries) (k : ℕ) (e : Extern_name × Tree Name Name) → EachEntry P es → slice_get es k ≡ Some e → P e.1
at_entry P [] k e h g = absurd (no g)
  where
    no : None ≡ Some e → ⊥
    no g = cc
at_entry P (x ∷ es) zero e h g = let f : x ≡ e = cc in subst (λ (z : Extern_name × Tree Name Name). P z.1) f h.0
at_entry P (x ∷ es) (suc k) e h g = at_entry P es k e h.1 g

apart_exports : (m : Replacement) (r : Name) (ps : Parts Name Name) → ApartIn m r ps → EachEntry (Apart m r) (exports_in ps)
apart_exports m r none a = tt
apart_exports m r (part (export n) t ps) a = (a.0, apart_exports m r ps a.1)
apart_exports m r (part here t ps) a = apart_exports m r ps a.1
apart_exports m r (part (label n) t ps) a = apart_exports m r ps a.1
apart_exports m r (part (import n) t ps) a = apart_exports m r ps a.1
apart_exports m r (part (core_import n l) t ps) a = apart_exports m r ps a.1
apart_exports m r (part (core_export n) t ps) a = apart_exports m r ps a.1

apart_imports : (m : Replacement) (r : Name) (ps : Parts Name Name) → ApartIn m r ps → EachEntry (Apart m r) (imports_in ps)
apart_imports m r none a = tt
apart_imports m r (part (import n) t ps) a = (a.0, apart_imports m r ps a.1)
apart_imports m r (part here t ps) a = apart_imports m r ps a.1
apart_imports m r (part (label n) t ps) a = apart_imports m r ps a.1
apart_imports m r (part (export n) t ps) a = apart_imports m r ps a.1
apart_imports m r (part (core_import n l) t ps) a = apart_imports m r ps a.1
apart_imports m r (part (core_export n) t ps) a = apart_imports m r ps a.1

-- ## What a path leads to is free

free_export : (r : Name) (ps : Parts Name Name) (k : ℕ) (e : Extern_name × Tree Name Name) → slice_get (exports_in ps) k ≡ Some e → Free r e.1 → FreeIn r ps
free_export r none k e h f = absurd (no h)
  where
    no : None ≡ Some e → ⊥
    no h = cc
free_export r (part (export n) t ps) zero e h f = let g : (n, t) ≡ e = cc in inl (subst (λ (z : Extern_name × Tree Name Name). Free r z.1) (sym g) f)
free_export r (part (export n) t ps) (suc k) e h f = inr (free_export r ps k e h f)
free_export r (part here t ps) k e h f = inr (free_export r ps k e h f)
free_export r (part (label n) t ps) k e h f = inr (free_export r ps k e h f)
free_export r (part (import n) t ps) k e h f = inr (free_export r ps k e h f)
free_export r (part (core_import n l) t ps) k e h f = inr (free_export r ps k e h f)
free_export r (part (core_export n) t ps) k e h f = inr (free_export r ps k e h f)

free_type : (r : Name) (t : Tree Name Name) → IsTypeOf r t → Free r t
free_type r (node type_entity (part j c (part k (node h qs) ps))) w = inr (refl, inr (inl (inl w.1)))
free_type r (node type_entity (part j c none)) w = absurd w.1
free_type r (node type_entity none) w = absurd w.1
free_type r (node nothing ps) w = absurd (let e = w.0 in cc)
free_type r (node (primitive q) ps) w = absurd (let e = w.0 in cc)
free_type r (node (resource q s) ps) w = absurd (let e = w.0 in cc)
free_type r (node (defined i f) ps) w = absurd (let e = w.0 in cc)
free_type r (node (func i b) ps) w = absurd (let e = w.0 in cc)
free_type r (node (instance i own) ps) w = absurd (let e = w.0 in cc)
free_type r (node (component i ins outs) ps) w = absurd (let e = w.0 in cc)
free_type r (node (core_module i n) ps) w = absurd (let e = w.0 in cc)
free_type r (node (core_instance i n) ps) w = absurd (let e = w.0 in cc)
free_type r (node (core_type i) ps) w = absurd (let e = w.0 in cc)
free_type r (node (core_item x) ps) w = absurd (let e = w.0 in cc)

way_free : (r : Name) (t : Tree Name Name) → IsWayTo r t → FreeIn r (parts t) → Free r t
way_free r (node h ps) w f = inr (w.1, f)

leads_free : (p : List ℕ) (r : Name) (ps : Parts Name Name) → PathLeadsTo p r (exports_in ps) → FreeIn r ps
leads_free [] r ps l = absurd l
leads_free (k ∷ []) r ps l = free_export r ps k l.0 l.1 (free_type r l.0.1 l.2)
leads_free (k ∷ j ∷ p) r ps l = free_export r ps k l.0 l.1 (way_free r l.0.1 l.2 (leads_free (j ∷ p) r (parts l.0.1) l.3))

-- ## A rebuilt entry

not_given : (m : Replacement) (h : Head Name Name) (ps : Parts Name Name) → given_at m h ≡ None → replaced m (node h ps) ≡ node (new_head m (moves m h || changed_in m ps) h) (replaced_in m ps)
not_given m h ps g = ap (λ (o : Option (Tree Name Name)). given_or o (node (new_head m (moves m h || changed_in m ps) h) (replaced_in m ps))) g

reference_stays : (m : Replacement) (r : Name) (t : Tree Name Name) → moved r (m.resources r) ≡ false → Apart m r t → RefersTo r (head t) → RefersTo r (head (replaced m t))
reference_stays m r (node (resource q s) ps) n a e =
    let g : given_at m (resource q s) ≡ None = a.0 (inl e) in
    let o : new_resource m q ≡ r = ap (new_resource m) (sym e) ∙ unmoved r (m.resources r) n in
    subst (λ (t : Tree Name Name). RefersTo r (head t)) (sym (not_given m (resource q s) ps g)) (sym o)
reference_stays m r (node nothing ps) n a e = absurd e
reference_stays m r (node (primitive q) ps) n a e = absurd e
reference_stays m r (node (defined i f) ps) n a e = absurd e
reference_stays m r (node (func i b) ps) n a e = absurd e
reference_stays m r (node (instance i own) ps) n a e = absurd e
reference_stays m r (node (component i ins outs) ps) n a e = absurd e
reference_stays m r (node type_entity ps) n a e = absurd e
reference_stays m r (node (core_module i k) ps) n a e = absurd e
reference_stays m r (node (core_instance i k) ps) n a e = absurd e
reference_stays m r (node (core_type i) ps) n a e = absurd e
reference_stays m r (node (core_item x) ps) n a e = absurd e

type_stays : (m : Replacement) (r : Name) (t : Tree Name Name) → moved r (m.resources r) ≡ false → Apart m r t → IsTypeOf r t → IsTypeOf r (replaced m t)
type_stays m r (node type_entity (part j c (part k t ps))) n a w = (refl, reference_stays m r t n a.1.1.0 w.1)
type_stays m r (node type_entity (part j c none)) n a w = absurd w.1
type_stays m r (node type_entity none) n a w = absurd w.1
type_stays m r (node nothing ps) n a w = absurd (let e = w.0 in cc)
type_stays m r (node (primitive q) ps) n a w = absurd (let e = w.0 in cc)
type_stays m r (node (resource q s) ps) n a w = absurd (let e = w.0 in cc)
type_stays m r (node (defined i f) ps) n a w = absurd (let e = w.0 in cc)
type_stays m r (node (func i b) ps) n a w = absurd (let e = w.0 in cc)
type_stays m r (node (instance i own) ps) n a w = absurd (let e = w.0 in cc)
type_stays m r (node (component i ins outs) ps) n a w = absurd (let e = w.0 in cc)
type_stays m r (node (core_module i k) ps) n a w = absurd (let e = w.0 in cc)
type_stays m r (node (core_instance i k) ps) n a w = absurd (let e = w.0 in cc)
type_stays m r (node (core_type i) ps) n a w = absurd (let e = w.0 in cc)
type_stays m r (node (core_item x) ps) n a w = absurd (let e = w.0 in cc)

pub record WayStays (m : Replacement) (r : Name) (t : Tree Name Name) : Type 0 where
  pub way : IsWayTo r (replaced m t)
  pub same_exports : exports (replaced m t) ≡ over (replaced m) (exports t)

way_stays : (m : Replacement) (r : Name) (t : Tree Name Name) → Apart m r t → Free r t → IsWayTo r t → WayStays m r t
way_stays m r (node (instance i own) ps) a f w =
    let e : replaced m (node (instance i own) ps) ≡ node (cond (changed_in m ps) (instance (m.again i) own) (instance i own)) (replaced_in m ps) = not_given m (instance i own) ps (a.0 f) in
    record {
      way = subst (λ (t : Tree Name Name). IsWayTo r t) (sym e) (go (changed_in m ps) w.1);
      same_exports = ap (λ (t : Tree Name Name). exports t) e ∙ exports_replaced m ps;
    }
  where
    go : (b : Bool) → member r own ≡ false → IsWayTo r (node (cond b (instance (m.again i) own) (instance i own)) (replaced_in m ps))
    go true h = (refl, h)
    go false h = (refl, h)
way_stays m r (node nothing ps) a f w = absurd (let e = w.0 in cc)
way_stays m r (node (primitive q) ps) a f w = absurd (let e = w.0 in cc)
way_stays m r (node (resource q s) ps) a f w = absurd (let e = w.0 in cc)
way_stays m r (node (defined i k) ps) a f w = absurd (let e = w.0 in cc)
way_stays m r (node (func i b) ps) a f w = absurd (let e = w.0 in cc)
way_stays m r (node (component i ins outs) ps) a f w = absurd (let e = w.0 in cc)
way_stays m r (node type_entity ps) a f w = absurd (let e = w.0 in cc)
way_stays m r (node (core_module i k) ps) a f w = absurd (let e = w.0 in cc)
way_stays m r (node (core_instance i k) ps) a f w = absurd (let e = w.0 in cc)
way_stays m r (node (core_type i) ps) a f w = absurd (let e = w.0 in cc)
way_stays m r (node (core_item x) ps) a f w = absurd (let e = w.0 in cc)

apart_parts : (m : Replacement) (r : Name) (t : Tree Name Name) → Apart m r t → EachEntry (Apart m r) (exports t)
apart_parts m r (node h ps) a = apart_exports m r ps a.1

leads_stays : (m : Replacement) (p : List ℕ) (r : Name) (es : Entries) → moved r (m.resources r) ≡ false → EachEntry (Apart m r) es → PathLeadsTo p r es → PathLeadsTo p r (over (replaced m) es)
leads_stays m [] r es n a l = absurd l
leads_stays m (k ∷ []) r es n a l = ((l.0.0, replaced m l.0.1), get_over m es k l.0 l.1, type_stays m r l.0.1 n (at_entry (Apart m r) es k l.0 a l.1) l.2)
leads_stays m (k ∷ j ∷ p) r es n a l =
    let away : Apart m r l.0.1 = at_entry (Apart m r) es k l.0 a l.1 in
    let w : WayStays m r l.0.1 = way_stays m r l.0.1 away (way_free r l.0.1 l.2 (leads_free (j ∷ p) r (parts l.0.1) l.3)) l.2 in (
      (l.0.0, replaced m l.0.1),
      get_over m es k l.0 l.1,
      w.way,
      subst (λ (fs : Entries). PathLeadsTo (j ∷ p) r fs) (sym w.same_exports) (leads_stays m (j ∷ p) r (exports l.0.1) n (apart_parts m r l.0.1 away) l.3),
    )

-- ## The paths of a node

all_mapped : {X : Type 0} (P Q : X → Type 0) (xs : List X) → ((x : X) → Contains xs x → P x → Q x) → All P xs → All Q xs
all_mapped P Q xs f a = λ i d h. f (get_or xs i d) (All-contains_itself xs i d h) (a i d h)

left_true : (a b : Bool) → a ≡ true → (a || b) ≡ true
left_true true b h = refl
left_true false b h = cc

right_true : (a b : Bool) → b ≡ true → (a || b) ≡ true
right_true true b h = refl
right_true false b h = h

member_in : (xs : List Name) (r : Name) (k : ℕ) → k < length xs → get_or xs k r ≡ r → member r xs ≡ true
member_in [] r k h e = absurd (omega (arith, h))
member_in (x ∷ xs) r zero h e = ap (λ (b : Bool). b || member r xs) (ap (same r) e ∙ same-refl r)
member_in (x ∷ xs) r (suc k) h e = right_true (same r x) (member r xs) (member_in xs r k (omega (arith, h)) e)

firsts_in : (xs : List (Name × List ℕ)) (e : Name × List ℕ) (k : ℕ) → k < length xs → get_or xs k e ≡ e → member e.0 (firsts xs) ≡ true
firsts_in [] e k h g = absurd (omega (arith, h))
firsts_in (x ∷ xs) e zero h g = ap (λ (b : Bool). b || member e.0 (firsts xs)) (ap (same e.0) (ap (λ (z : Name × List ℕ). z.0) g) ∙ same-refl e.0)
firsts_in (x ∷ xs) e (suc k) h g = right_true (same e.0 x.0) (member e.0 (firsts xs)) (firsts_in xs e k (omega (arith, h)) g)

-- what the node owns stays, and no node that mentions it is given
abbrev pub Spares : Replacement → Head Name Name → Parts Name Name → Type 0
Spares m h ps = (r : Name) → owns h r ≡ true → (moved r (m.resources r) ≡ false) × ApartIn m r ps

exports_lead : (m : Replacement) (ps : Parts Name Name) (p : List ℕ) (r : Name) → moved r (m.resources r) ≡ false → ApartIn m r ps → PathLeadsTo p r (exports_in ps) → PathLeadsTo p r (exports_in (replaced_in m ps))
exports_lead m ps p r n a l = subst (λ (es : Entries). PathLeadsTo p r es) (sym (exports_replaced m ps)) (leads_stays m p r (exports_in ps) n (apart_exports m r ps a) l)

imports_lead : (m : Replacement) (ps : Parts Name Name) (p : List ℕ) (r : Name) → moved r (m.resources r) ≡ false → ApartIn m r ps → PathLeadsTo p r (imports_in ps) → PathLeadsTo p r (imports_in (replaced_in m ps))
imports_lead m ps p r n a l = subst (λ (es : Entries). PathLeadsTo p r es) (sym (imports_replaced m ps)) (leads_stays m p r (imports_in ps) n (apart_imports m r ps a) l)

pub head_led : (m : Replacement) (h : Head Name Name) (ps : Parts Name Name) → Spares m h ps → HeadLed h ps → HeadLed h (replaced_in m ps)
head_led m (instance i own) ps s l =
    all_mapped (HasPath (exports_in ps)) (HasPath (exports_in (replaced_in m ps))) own
    (λ r c w. let v = s r (member_in own r c.0 c.1 c.2) in (w.0, exports_lead m ps w.0 r v.0 v.1 w.1)) l
head_led m (component i ins outs) ps s l = (
  all_mapped (λ e. PathLeadsTo e.1 e.0 (imports_in ps)) (λ e. PathLeadsTo e.1 e.0 (imports_in (replaced_in m ps))) ins
      (λ e c w. let v = s e.0 (left_true (member e.0 (firsts ins)) (member e.0 (firsts outs)) (firsts_in ins e c.0 c.1 c.2)) in imports_lead m ps e.1 e.0 v.0 v.1 w) l.0,
  all_mapped (λ e. PathLeadsTo e.1 e.0 (exports_in ps)) (λ e. PathLeadsTo e.1 e.0 (exports_in (replaced_in m ps))) outs
      (λ e c w. let v = s e.0 (right_true (member e.0 (firsts ins)) (member e.0 (firsts outs)) (firsts_in outs e c.0 c.1 c.2)) in exports_lead m ps e.1 e.0 v.0 v.1 w) l.1,
)
head_led m nothing ps s l = tt
head_led m (primitive q) ps s l = tt
head_led m (resource q t) ps s l = tt
head_led m (defined i k) ps s l = tt
head_led m (func i b) ps s l = tt
head_led m type_entity ps s l = tt
head_led m (core_module i n) ps s l = tt
head_led m (core_instance i n) ps s l = tt
head_led m (core_type k) ps s l = tt
head_led m (core_item x) ps s l = tt
