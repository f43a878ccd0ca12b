-- The form of a name is the one that is written so.
use Rattle.std.proofs.Common.{◌≡◌, ℕ, List, [], ◌∷◌, ◌++◌, Bool, true, false, not, cond, eqb, ◌&&◌, Option, Some, None, option_map, refl, sym, ap, ◌∙◌, subst, arith}
use Rattle.std.specs.Char.{is_ascii_alphabetic, is_ascii_uppercase}
use Rattle.std.specs.List.{list_any}
use Rattle.std.proofs.lemmas.Bool.{and_parts}
use Rattle.std.proofs.lemmas.Bool.Decides.{nat_tests}
use Rattle.wcv_core.specs.Label.{is_label}
use Rattle.wcv_syntax.specs.ExternName.{Text, Access, call, get, set, Form, item, constructor, method, static, interface, access_mark, constructor_mark, method_mark, static_mark, joined, dot, slash, colon, at_sign, with_version, spelled, is_lower_label, is_some_text, is_formed, Names}
use Rattle.wcv_syntax.specs.FormOf.{behind, around, choose, marked, used, if_formed, item_in, constructor_in, labels_of, member_in, versioned, interface_in, unmarked, form_of}
use Rattle.wcv_syntax.proofs.Cuts.{behind-sound, around-sound, around-complete, around-none, lacks}
use Rattle.wcv_syntax.proofs.LabelBytes.{label-lacks, label-first}

-- ## From a form to its name and back

-- it begins with a letter
abbrev Lettered : Text → Type 0
Lettered t = (b : ℕ) × (bs : List ℕ) × (t ≡ b ∷ bs) × (is_ascii_alphabetic b ≡ true)

lettered : (l rest : Text) → is_label l ≡ true → Lettered (l ++ rest)
lettered l rest h = let f = label-first l h in (f.0, f.1 ++ rest, ap (λ (t : Text). t ++ rest) f.2, f.3)

-- what begins with a letter begins with no mark
no_bracket : (b : ℕ) → is_ascii_alphabetic b ≡ true → eqb b 91 ≡ false
no_bracket b h = grind (arith, nat_tests)

no_mark : (m t : Text) → Lettered t → behind (91 ∷ m) t ≡ None
no_mark m t f = ap (behind (91 ∷ m)) f.2 ∙ ap (λ (x : Bool). cond x (behind m f.1) None) (no_bracket f.0 f.3)

unread : {Y : Type 0} (m : Text) (f g : Text → Y) (t : Text) → Lettered t → marked (91 ∷ m) f g t ≡ g t
unread m f g t h = ap (λ (o : Option Text). choose o f (g t)) (no_mark m t h)

-- how it is used
used-back : (a : Access) (t : Text) → Lettered t → used (access_mark a ++ t) ≡ (a, t)
used-back get t h = refl
used-back set t h = refl
used-back call t h =
    let last : Text → Access × Text = λ u. (call, u) in
    unread (103 ∷ 101 ∷ 116 ∷ 93 ∷ []) (λ u. (get, u)) (marked (access_mark set) (λ u. (set, u)) last) t h ∙
    unread (115 ∷ 101 ∷ 116 ∷ 93 ∷ []) (λ u. (set, u)) last t h

formed : (f : Form) → is_formed f ≡ true → if_formed f ≡ Some f
formed f h = ap (λ (x : Bool). cond x (Some f) None) h

member-back : (k : Access → Text → Text → Form) (a : Access) (r f : Text) → (is_label r && is_label f) ≡ true → member_in k (access_mark a ++ joined dot r f) ≡ Some (k a r f)
member-back k a r f h =
    let b = and_parts (is_label r) (is_label f) h in
    let e = used-back a (joined dot r f) (lettered r (dot ∷ f) b.0) in
    ap (λ (u : Access × Text). option_map (λ (m : Access × Text × Text). k m.0 m.1 m.2) (choose (around dot u.1) (labels_of u.0) None)) e ∙
    ap (λ (o : Option (Text × Text)). option_map (λ (m : Access × Text × Text). k m.0 m.1 m.2) (choose o (labels_of a) None)) (around-complete dot r f (label-lacks dot refl r b.0)) ∙
    ap (λ (x : Bool). option_map (λ (m : Access × Text × Text). k m.0 m.1 m.2) (cond x (Some (a, r, f)) None)) h

-- a text that begins with a letter is read as one with no mark
plainly : (t : Text) → Lettered t → form_of t ≡ unmarked t
plainly t h =
    let third : Text → Option Form = marked static_mark (member_in static) unmarked in
    let second : Text → Option Form = marked method_mark (member_in method) third in
    unread (99 ∷ 111 ∷ 110 ∷ 115 ∷ 116 ∷ 114 ∷ 117 ∷ 99 ∷ 116 ∷ 111 ∷ 114 ∷ 93 ∷ []) constructor_in second t h ∙
    unread (109 ∷ 101 ∷ 116 ∷ 104 ∷ 111 ∷ 100 ∷ 93 ∷ []) (member_in method) third t h ∙
    unread (115 ∷ 116 ∷ 97 ∷ 116 ∷ 105 ∷ 99 ∷ 93 ∷ []) (member_in static) unmarked t h

first_letter : (l : Text) → is_label l ≡ true → Lettered l
first_letter l h = label-first l h

item-plainly : (a : Access) (l : Text) → is_label l ≡ true → form_of (access_mark a ++ l) ≡ unmarked (access_mark a ++ l)
item-plainly call l h = plainly l (first_letter l h)
item-plainly get l h = refl
item-plainly set l h = refl

no_colon : (a : Access) (l : Text) → is_label l ≡ true → lacks colon (access_mark a ++ l) ≡ false
no_colon call l h = label-lacks colon refl l h
no_colon get l h = label-lacks colon refl l h
no_colon set l h = label-lacks colon refl l h

versioned-back : (i : Text) (v : Option Text) → is_label i ≡ true → versioned (with_version i v) ≡ (i, v)
versioned-back i None h = ap (λ (o : Option (Text × Text)). choose o (λ (p : Text × Text). (p.0, Some p.1)) (i, None)) (around-none at_sign i (label-lacks at_sign refl i h))
versioned-back i (Some v) h = ap (λ (o : Option (Text × Text)). choose o (λ (p : Text × Text). (p.0, Some p.1)) (joined at_sign i v, None)) (around-complete at_sign i v (label-lacks at_sign refl i h))

interface-back : (n p i : Text) (v : Option Text) → is_formed (interface n p i v) ≡ true → interface_in n (joined slash p (with_version i v)) ≡ Some (interface n p i v)
interface-back n p i v h =
    let rest = and_parts (is_lower_label n) (is_lower_label p && (is_label i && is_some_text v)) h in
    let after = and_parts (is_lower_label p) (is_label i && is_some_text v) rest.1 in
    let holder = and_parts (is_label p) (not (list_any is_ascii_uppercase p)) after.0 in
    let name = and_parts (is_label i) (is_some_text v) after.1 in
    ap (λ (o : Option (Text × Text)). choose o (λ (q : Text × Text). if_formed (interface n q.0 (versioned q.1).0 (versioned q.1).1)) None) (around-complete slash p (with_version i v) (label-lacks slash refl p holder.0)) ∙
    ap (λ (w : Text × Option Text). if_formed (interface n p w.0 w.1)) (versioned-back i v name.0) ∙
    formed (interface n p i v) h

-- the name of a form has this form
pub complete : (f : Form) → is_formed f ≡ true → form_of (spelled f) ≡ Some f
complete (item a l) h =
    item-plainly a l h ∙
    ap (λ (o : Option (Text × Text)). choose o (λ (p : Text × Text). interface_in p.0 p.1) (item_in (access_mark a ++ l))) (around-none colon (access_mark a ++ l) (no_colon a l h)) ∙
    ap (λ (u : Access × Text). if_formed (item u.0 u.1)) (used-back a l (first_letter l h)) ∙
    formed (item a l) h
complete (constructor l) h = formed (constructor l) h
complete (method a r f) h = member-back method a r f h
complete (static a r f) h = member-back static a r f h
complete (interface n p i v) h =
    let rest = and_parts (is_lower_label n) (is_lower_label p && (is_label i && is_some_text v)) h in
    let space = and_parts (is_label n) (not (list_any is_ascii_uppercase n)) rest.0 in
    let u : Text = joined slash p (with_version i v) in
    plainly (joined colon n u) (lettered n (colon ∷ u) space.0) ∙
    ap (λ (o : Option (Text × Text)). choose o (λ (q : Text × Text). interface_in q.0 q.1) (item_in (joined colon n u))) (around-complete colon n u (label-lacks colon refl n space.0)) ∙
    interface-back n p i v h

-- ## From a name to its form and back

some : {X : Type 0} {x y : X} → Some x ≡ Some y → x ≡ y
some e = cc e

if_formed-sound : (f x : Form) → if_formed f ≡ Some x → (f ≡ x) × (is_formed f ≡ true)
if_formed-sound f x h = go (is_formed f) refl h
  where
    go : (b : Bool) → is_formed f ≡ b → cond b (Some f) None ≡ Some x → (f ≡ x) × (is_formed f ≡ true)
    go true e k = (some k, e)
    go false e k = cc k

names : (t : Text) (f x : Form) → spelled f ≡ t → if_formed f ≡ Some x → Names t x
names t f x w h =
    let k = if_formed-sound f x h in
    record { written_so = ap spelled (sym k.0) ∙ w; formed = ap is_formed (sym k.0) ∙ k.1 }

marked-sound : (m : Text) (f g : Text → Option Form) (t : Text) → ((u : Text) (x : Form) → f u ≡ Some x → Names (m ++ u) x) → ((x : Form) → g t ≡ Some x → Names t x) → (x : Form) → marked m f g t ≡ Some x → Names t x
marked-sound m f g t p q x h = go (behind m t) refl h
  where
    go : (o : Option Text) → behind m t ≡ o → choose o f (g t) ≡ Some x → Names t x
    go (Some u) e k = subst (λ (s : Text). Names s x) (sym (behind-sound m t u e)) (p u x k)
    go None e k = q x k

used-sound : (t : Text) → access_mark (used t).0 ++ (used t).1 ≡ t
used-sound t = go (behind (access_mark get) t) refl (behind (access_mark set) t) refl
  where
    go : (o : Option Text) → behind (access_mark get) t ≡ o → (q : Option Text) → behind (access_mark set) t ≡ q → (let u : Access × Text = choose o (λ u. (get, u)) (choose q (λ u. (set, u)) (call, t)) in access_mark u.0 ++ u.1 ≡ t)
    go (Some u) e q f = sym (behind-sound (access_mark get) t u e)
    go None e (Some u) f = sym (behind-sound (access_mark set) t u f)
    go None e None f = refl

member-sound : (m : Text) (k : Access → Text → Text → Form) → ((a : Access) (r f : Text) → spelled (k a r f) ≡ m ++ (access_mark a ++ joined dot r f)) → ((a : Access) (r f : Text) → is_formed (k a r f) ≡ (is_label r && is_label f))
    → (u : Text) (x : Form) → member_in k u ≡ Some x → Names (m ++ u) x
member-sound m k w q u x h = go (around dot (used u).1) refl h
  where
    made : (p : Text × Text) → (used u).1 ≡ joined dot p.0 p.1 → (b : Bool) → (is_label p.0 && is_label p.1) ≡ b
        → option_map (λ (n : Access × Text × Text). k n.0 n.1 n.2) (cond b (Some ((used u).0, p.0, p.1)) None) ≡ Some x → Names (m ++ u) x
    made p e true f j =
        let same : k (used u).0 p.0 p.1 ≡ x = some j in
        record {
          written_so = ap spelled (sym same) ∙ w (used u).0 p.0 p.1 ∙ ap (λ (s : Text). m ++ (access_mark (used u).0 ++ s)) (sym e) ∙ ap (λ (s : Text). m ++ s) (used-sound u);
          formed = ap is_formed (sym same) ∙ q (used u).0 p.0 p.1 ∙ f;
        }
    made p e false f j = cc j

    go : (o : Option (Text × Text)) → around dot (used u).1 ≡ o → option_map (λ (n : Access × Text × Text). k n.0 n.1 n.2) (choose o (labels_of (used u).0) None) ≡ Some x → Names (m ++ u) x
    go None e j = cc j
    go (Some p) e j = made p (around-sound dot (used u).1 p e) (is_label p.0 && is_label p.1) refl j

versioned-sound : (t : Text) → with_version (versioned t).0 (versioned t).1 ≡ t
versioned-sound t = go (around at_sign t) refl
  where
    go : (o : Option (Text × Text)) → around at_sign t ≡ o → (let w : Text × Option Text = choose o (λ p. (p.0, Some p.1)) (t, None) in with_version w.0 w.1 ≡ t)
    go None e = refl
    go (Some p) e = sym (around-sound at_sign t p e)

interface-sound : (n u : Text) (x : Form) → interface_in n u ≡ Some x → Names (joined colon n u) x
interface-sound n u x h = go (around slash u) refl h
  where
    go : (o : Option (Text × Text)) → around slash u ≡ o → choose o (λ (q : Text × Text). if_formed (interface n q.0 (versioned q.1).0 (versioned q.1).1)) None ≡ Some x → Names (joined colon n u) x
    go None e j = cc j
    go (Some p) e j =
        names (joined colon n u) (interface n p.0 (versioned p.1).0 (versioned p.1).1) x
        (ap (λ (s : Text). joined colon n (joined slash p.0 s)) (versioned-sound p.1) ∙ ap (joined colon n) (sym (around-sound slash u p e))) j

unmarked-sound : (t : Text) (x : Form) → unmarked t ≡ Some x → Names t x
unmarked-sound t x h = go (around colon t) refl h
  where
    go : (o : Option (Text × Text)) → around colon t ≡ o → choose o (λ (q : Text × Text). interface_in q.0 q.1) (item_in t) ≡ Some x → Names t x
    go (Some p) e j = subst (λ (s : Text). Names s x) (sym (around-sound colon t p e)) (interface-sound p.0 p.1 x j)
    go None e j = names t (item (used t).0 (used t).1) x (used-sound t) j

-- a text that has a form is written as its name
pub sound : (t : Text) (f : Form) → form_of t ≡ Some f → Names t f
sound t =
    marked-sound constructor_mark constructor_in (marked method_mark (member_in method) (marked static_mark (member_in static) unmarked)) t
    (λ u x. names (constructor_mark ++ u) (constructor u) x refl)
    (marked-sound method_mark (member_in method) (marked static_mark (member_in static) unmarked) t
    (member-sound method_mark method (λ a r f. refl) (λ a r f. refl))
    (marked-sound static_mark (member_in static) unmarked t
    (member-sound static_mark static (λ a r f. refl) (λ a r f. refl))
    (unmarked-sound t)))

-- so it is found exactly where the text is a name of it
pub found : (t : Text) (f : Form) → Names t f → form_of t ≡ Some f
found t f n = ap form_of (sym n.written_so) ∙ complete f n.formed
