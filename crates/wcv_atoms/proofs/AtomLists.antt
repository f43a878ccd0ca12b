-- Readings by lists and by maps.
use Rattle.std.proofs.Common.{◌≡◌, ℕ, List, [], ◌∷◌, ◌++◌, map, Bool, true, false, ◌||◌, cond, eqb, Option, Some, None, refl, sym, ◌∙◌, ap, arith, nat_cmp, drop, take, ◌+◌, length, ◌<◌, ◌≤◌, ◌-◌}
use Rattle.std.proofs.Math.Path.{fun_ext}
use Rattle.std.proofs.lemmas.Bool.Decides.{nat_tests}
use Rattle.std.specs.BTreeMap.{BTreeMap, get_by, Updates}
use Rattle.std.specs.Map.{lookup}
use Rattle.std.proofs.lemmas.List.{map-append}
use Rattle.std.specs.Prelude.{slice_get}
use Rattle.std.specs.Ordering.{is_eq}
use Rattle.wcv_core.specs.Names.{Name, number, stamp, base, at, stamped, aside, same, member}
use Rattle.wcv_core.proofs.Names.{same-true}
use Rattle.wcv_matching.specs.Matching.{Reading}
use Rattle.wcv_matching.specs.OnePass.{Atom, owned_in}
use Rattle.wcv_atoms.specs.Readings.{read_or_given, reading_of, resource_name, atom_of, atoms_of, over, read_by}
use Rattle.wcv_atoms.specs.declared.readings.ResourceAtom.{ResourceAtom}
use Rattle.wcv_atoms.specs.declared.readings.ResourceAtom.TheVariants as atom
use Rattle.wcv_types.specs.Sets.{resource_names}
use Rattle.wcv_types.specs.declared.ids.ResourceId.{ResourceId}
use Rattle.wcv_matching.proofs.ByName.{before_end, drop_none}
use Rattle.wcv_atoms.proofs.Walking.{take_more}

-- ## Maps

pub number_told : (m n : ℕ) → is_eq (nat_cmp m n) ≡ eqb n m
number_told m n = grind (arith, nat_tests)

-- one more resource in the map
pub reading_set : (m n : BTreeMap ℕ ResourceAtom) (k : ℕ) (w : ResourceAtom) → Updates nat_cmp m n k (Some w) → (r : Name) → reading_of n r ≡ cond (same r (number k)) (atom_of w) (reading_of m r)
reading_set m n k w u (number i) =
    ap (read_or_given (number i)) (u.0 i ∙ ap (λ (b : Bool). cond b (Some w) (get_by (λ j. nat_cmp i j) m)) (number_told k i)) ∙ go (eqb i k)
  where
    go : (b : Bool) → read_or_given (number i) (cond b (Some w) (get_by (λ j. nat_cmp i j) m)) ≡ cond b (atom_of w) (reading_of m (number i))
    go true = refl
    go false = refl
reading_set m n k w u (stamp i) = refl
reading_set m n k w u (base p) = refl
reading_set m n k w u (at p r) = refl
reading_set m n k w u (stamped p) = refl
reading_set m n k w u (aside r) = refl

-- ## Lists

pub elim_cond : (b : Bool) (w v : Atom) (o : Option Atom) → elim (cond b (Some w) o) [ None ↦ v | Some x ↦ x ] ≡ cond b w (elim o [ None ↦ v | Some x ↦ x ])
elim_cond true w v o = refl
elim_cond false w v o = refl

-- one more entry before the others
pub over_first : (q : Name) (w : Atom) (es : List (Name × Atom)) (f g : Reading Atom) → ((r : Name) → g r ≡ cond (same r q) w (over es f r)) → g ≡ over ((q, w) ∷ es) f
over_first q w es f g h = fun_ext (λ r. h r ∙ sym (elim_cond (same r q) w (f r) (lookup (same r) es)))

-- each resource of a list, read by one function
pub over_listed : (s f : Reading Atom) (rs : List Name) (r : Name) → over (read_by s rs) f r ≡ cond (member r rs) (s r) (f r)
over_listed s f [] r = refl
over_listed s f (q ∷ rs) r = elim_cond (same r q) (s q) (f r) (lookup (same r) (read_by s rs)) ∙ go (same r q) refl (over_listed s f rs r)
  where
    go : (b : Bool) → same r q ≡ b → over (read_by s rs) f r ≡ cond (member r rs) (s r) (f r) → cond b (s q) (over (read_by s rs) f r) ≡ cond (b || member r rs) (s r) (f r)
    go true e h = ap s (sym (same-true r q e))
    go false e h = h

-- as the resources of the list are read by f, they are read again where nothing else is told of the others
again : (f g : Reading Atom) (r : Name) (es : List (Name × Atom)) → over es f r ≡ g r → over (map (λ e. (e.0, f e.0)) es) g r ≡ f r
again f g r [] h = sym h
again f g r (e ∷ es) h =
    elim_cond (same r e.0) (f e.0) (g r) (lookup (same r) (map (λ e. (e.0, f e.0)) es)) ∙ go (same r e.0) refl (again f g r es) (sym (elim_cond (same r e.0) e.1 (f r) (lookup (same r) es)) ∙ h)
  where
    go : (b : Bool) → same r e.0 ≡ b → (over es f r ≡ g r → over (map (λ e. (e.0, f e.0)) es) g r ≡ f r) → cond b e.1 (over es f r) ≡ g r → cond b (f e.0) (over (map (λ e. (e.0, f e.0)) es) g r) ≡ f r
    go true q w k = ap f (sym (same-true r e.0 q))
    go false q w k = w k

-- what was there before comes back
pub over_back : (es : List (Name × Atom)) (f : Reading Atom) → over (map (λ e. (e.0, f e.0)) es) (over es f) ≡ f
over_back es f = fun_ext (λ r. again f (over es f) r es refl)

-- ## Lists of ids

-- one more of them, from the end
pub entered_next : (es : List (ResourceId × ResourceAtom)) (k : ℕ) (e : ResourceId × ResourceAtom) (f g h : Reading Atom) → 0 < k → k ≤ length es → Some e ≡ slice_get es (k - 1) →
    g ≡ over (atoms_of (drop k es)) f → ((r : Name) → h r ≡ cond (same r (resource_name e.0)) (atom_of e.1) (g r)) → h ≡ over (atoms_of (drop (k - 1) es)) f
entered_next es k e f g h l m some p s =
    over_first (resource_name e.0) (atom_of e.1) (atoms_of (drop k es)) f h (λ r. s r ∙ ap (λ (q : Reading Atom). cond (same r (resource_name e.0)) (atom_of e.1) (q r)) p) ∙
    ap (λ (xs : List (ResourceId × ResourceAtom)). over (atoms_of xs) f) (sym (before_end es k e l some))

pub entered_all : (es : List (ResourceId × ResourceAtom)) (k : ℕ) (f g : Reading Atom) → k ≤ 0 → g ≡ over (atoms_of (drop k es)) f → g ≡ over (atoms_of es) f
entered_all es k f g l p = let z : k ≡ 0 = omega (arith, l) in p ∙ ap (λ (n : ℕ). over (atoms_of (drop n es)) f) z ∙ ap (λ (xs : List (ResourceId × ResourceAtom)). over (atoms_of xs) f) (drop_none es)

-- one more own resource
pub owned_more : (k : ℕ) (es : List (ResourceId × ResourceAtom)) (rs : List ResourceId) (i : ℕ) (r : ResourceId) → slice_get rs i ≡ Some r → atoms_of es ≡ read_by (owned_in k) (resource_names (take i rs)) →
    atoms_of (es ++ (r, atom.Owned k r) ∷ []) ≡ read_by (owned_in k) (resource_names (take (i + 1) rs))
owned_more k es rs i r e h =
    map-append (λ (x : ResourceId × ResourceAtom). (resource_name x.0, atom_of x.1)) es ((r, atom.Owned k r) ∷ []) ∙ ap (λ (xs : List (Name × Atom)). xs ++ (resource_name r, owned_in k (resource_name r)) ∷ []) h ∙
    sym (ap (λ (xs : List ResourceId). read_by (owned_in k) (resource_names xs)) (take_more rs i r e) ∙ ap (read_by (owned_in k)) (map-append (λ (x : ResourceId). number x.index) (take i rs) (r ∷ [])) ∙
    map-append (λ (x : Name). (x, owned_in k x)) (resource_names (take i rs)) (resource_name r ∷ []))
