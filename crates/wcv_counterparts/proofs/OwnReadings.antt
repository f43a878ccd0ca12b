-- What a component type reads its own resources as, by lists.
use Rattle.std.proofs.Common.{◌≡◌, ℕ, List, [], ◌∷◌, ◌++◌, map, Bool, true, false, ◌||◌, cond, refl, sym, ◌∙◌, ap, take, drop, length, get_or, ◌+◌, ◌<◌, Some, option_map, append_assoc, arith, eq-eqb, eqb}
use Rattle.std.proofs.lemmas.Bool.Decides.{nat_tests}
use Rattle.std.proofs.lemmas.Option.{slice_get-get_or, slice_get-map}
use Rattle.std.specs.List.{list_all}
use Rattle.std.proofs.Math.Path.{fun_ext}
use Rattle.std.proofs.lemmas.List.{map-append}
use Rattle.std.specs.Prelude.{slice_get}
use Rattle.std.specs.Map.{lookup}
use Rattle.wcv_core.specs.Names.{Name, same, member}
use Rattle.wcv_types.specs.Tree.{component, firsts}
use Rattle.wcv_types.specs.Unfold.{resource_path}
use Rattle.wcv_types.specs.declared.ids.ResourceId.{ResourceId}
use Rattle.wcv_matching.specs.Matching.{Reading}
use Rattle.wcv_matching.specs.OnePass.{Atom, component_at, is_made_in, made_in, owned_in}
use Rattle.wcv_matching.proofs.NamedLists.{map-map}
use Rattle.wcv_counterparts.specs.IdCounterparts.{lands_on}
use Rattle.wcv_counterparts.specs.OwnResources.{going, read_as}
use Rattle.wcv_atoms.specs.Readings.{atom_of, atoms_of, over, read_by, resource_name}
use Rattle.wcv_atoms.specs.declared.readings.ResourceAtom.{ResourceAtom}
use Rattle.wcv_atoms.specs.declared.readings.ResourceAtom.TheVariants as atom
use Rattle.wcv_atoms.proofs.AtomLists.{elim_cond, over_listed}
use Rattle.wcv_atoms.proofs.Walking.{each_holds, one_does_not, take_more}

-- ## Lists behind one another

over_at : (es fs : List (Name × Atom)) (f : Reading Atom) (r : Name) → over (es ++ fs) f r ≡ over es (over fs f) r
over_at [] fs f r = refl
over_at (e ∷ es) fs f r =
    elim_cond (same r e.0) e.1 (f r) (lookup (same r) (es ++ fs)) ∙ ap (λ (w : Atom). cond (same r e.0) e.1 w) (over_at es fs f r) ∙
    sym (elim_cond (same r e.0) e.1 (over fs f r) (lookup (same r) es))

-- in a component: those that are imported come first
pub component_over : (i : Name) (ins outs : List (Name × List ℕ)) (s t f : Reading Atom) → over (read_by s (firsts ins) ++ read_by t (firsts outs)) f ≡ component_at (component i ins outs) s t f
component_over i ins outs s t f = fun_ext (λ r.
    over_at (read_by s (firsts ins)) (read_by t (firsts outs)) f r ∙ over_listed s (over (read_by t (firsts outs)) f) (firsts ins) r ∙
    ap (λ (w : Atom). cond (member r (firsts ins)) (s r) w) (over_listed t f (firsts outs) r) ∙ go (member r (firsts ins)) (member r (firsts outs)) (s r) (t r) (f r))
  where
    go : (m n : Bool) (x y z : Atom) → cond m x (cond n y z) ≡ cond (m || n) (cond m x y) z
    go true n x y z = refl
    go false n x y z = refl

pub read-going : (f : Reading Atom) (to : Name → Name) (rs : List Name) → read_as f (going to rs) ≡ read_by (λ r. f (to r)) rs
read-going f to rs = map-map (λ (p : Name × Name). (p.0, f p.1)) (λ r. (r, to r)) rs

-- the own resources, each as what it goes to is read
pub own_over : (i : Name) (ins outs : List (Name × List ℕ)) (s t f : Reading Atom) (to from : Name → Name) (es : List (Name × Atom)) → es ≡ read_as s (going to (firsts ins)) ++ read_as t (going from (firsts outs)) →
    over es f ≡ component_at (component i ins outs) (λ r. s (to r)) (λ r. t (from r)) f
own_over i ins outs s t f to from es e =
    (λ j. over ((e ∙ (λ k. read-going s to (firsts ins) k ++ read-going t from (firsts outs) k)) j) f) ∙ component_over i ins outs (λ r. s (to r)) (λ r. t (from r)) f

-- ## Lists of ids

pub firsts-paths : (ps : List (ResourceId × List ℕ)) → firsts (map resource_path ps) ≡ map (λ p. resource_name p.0) ps
firsts-paths [] = refl
firsts-paths (p ∷ ps) = ap (λ (rs : List Name). resource_name p.0 ∷ rs) (firsts-paths ps)

-- one more that goes with itself
pub itself_more : (ws : List (ResourceId × ResourceId)) (ps : List (ResourceId × List ℕ)) (k : ℕ) (p : ResourceId × List ℕ) → slice_get ps k ≡ Some p → map lands_on ws ≡ going (λ r. r) (firsts (map resource_path (take k ps))) →
    map lands_on (ws ++ (p.0, p.0) ∷ []) ≡ going (λ r. r) (firsts (map resource_path (take (k + 1) ps)))
itself_more ws ps k p e h =
    map-append lands_on ws ((p.0, p.0) ∷ []) ∙ ap (λ (rs : List (Name × Name)). rs ++ (resource_name p.0, resource_name p.0) ∷ []) (h ∙ ap (going (λ r. r)) (firsts-paths (take k ps))) ∙
    sym (ap (going (λ r. r)) (firsts-paths (take (k + 1) ps) ∙ ap (map (λ (q : ResourceId × List ℕ). resource_name q.0)) (take_more ps k p e) ∙ map-append (λ (q : ResourceId × List ℕ). resource_name q.0) (take k ps) (p ∷ [])) ∙
    map-append (λ (r : Name). (r, r)) (map (λ (q : ResourceId × List ℕ). resource_name q.0) (take k ps)) (resource_name p.0 ∷ []))

-- one more that is read as an atom
pub read_more : (f : Reading Atom) (old es : List (ResourceId × ResourceAtom)) (ws : List (ResourceId × ResourceId)) (k : ℕ) (d : ResourceId × ResourceId) (x : ResourceAtom) → k < length ws → atom_of x ≡ f (resource_name (get_or ws k d).1) →
    atoms_of es ≡ atoms_of old ++ read_as f (map lands_on (take k ws)) → atoms_of (es ++ ((get_or ws k d).0, x) ∷ []) ≡ atoms_of old ++ read_as f (map lands_on (take (k + 1) ws))
read_more f old es ws k d x l a h =
    let w : ResourceId × ResourceId = get_or ws k d in
    map-append (λ (q : ResourceId × ResourceAtom). (resource_name q.0, atom_of q.1)) es ((w.0, x) ∷ []) ∙ (λ j. h j ++ (resource_name w.0, a j) ∷ []) ∙
    append_assoc (atoms_of old) (read_as f (map lands_on (take k ws))) ((resource_name w.0, f (resource_name w.1)) ∷ []) ∙
    sym (ap (λ (rs : List (Name × Atom)). atoms_of old ++ rs)
    (ap (λ (vs : List (ResourceId × ResourceId)). read_as f (map lands_on vs)) (take_more ws k w (slice_get-get_or ws k d l)) ∙ ap (read_as f) (map-append lands_on (take k ws) (w ∷ [])) ∙ map-append (λ (p : Name × Name). (p.0, f p.1)) (map lands_on (take k ws)) (lands_on w ∷ [])))

-- the first that join a list
pub first_joined : (old : List (ResourceId × ResourceAtom)) (es fs : List (Name × Atom)) → old ≡ [] → es ≡ atoms_of old ++ fs → es ≡ fs
first_joined old es fs e h = h ∙ ap (λ (ws : List (ResourceId × ResourceAtom)). atoms_of ws ++ fs) e

pub made_as : (b : Bool) (k : ℕ) (x : ResourceAtom) (r : ResourceId) → b ≡ true → x ≡ atom.Made k r → atom_of x ≡ cond b (made_in k) (owned_in k) (resource_name r)
made_as b k x r e h = ap atom_of h ∙ sym (ap (λ (c : Bool). cond c (made_in k) (owned_in k) (resource_name r)) e)

pub owned_as : (b : Bool) (k : ℕ) (x : ResourceAtom) (r : ResourceId) → b ≡ false → x ≡ atom.Owned k r → atom_of x ≡ cond b (made_in k) (owned_in k) (resource_name r)
owned_as b k x r e h = ap atom_of h ∙ sym (ap (λ (c : Bool). cond c (made_in k) (owned_in k) (resource_name r)) e)

-- ## Whether none is made at a level

not_made : (level : ℕ) (x : ResourceAtom) → ((at : ℕ) (q : ResourceId) → x ≡ atom.Made at q → ⊥) → is_made_in level (atom_of x) ≡ false
not_made level (atom.Given q) h = refl
not_made level (atom.Owned at q) h = refl
not_made level (atom.Made at q) h = absurd (h at q refl)

module _ (level : ℕ) (es : List (ResourceId × ResourceAtom)) (k : ℕ) (d : ResourceId × ResourceAtom) (l : k < length es) where
  abbrev passes : Name × Atom → Bool
  passes e = cond (is_made_in level e.1) false true

  abbrev entry_at : Name × Atom
  entry_at = (resource_name (get_or es k d).0, atom_of (get_or es k d).1)

  at_k : slice_get (atoms_of es) k ≡ Some entry_at
  at_k = slice_get-map (λ (e : ResourceId × ResourceAtom). (resource_name e.0, atom_of e.1)) es k ∙ ap (option_map (λ (e : ResourceId × ResourceAtom). (resource_name e.0, atom_of e.1))) (slice_get-get_or es k d l)

  abbrev LeftAt : ℕ → Type 0
  LeftAt i = list_all passes (atoms_of es) ≡ list_all passes (drop i (atoms_of es))

  pub one_made : (at : ℕ) (q : ResourceId) → (get_or es k d).1 ≡ atom.Made at q → at ≡ level → LeftAt k → false ≡ list_all passes (atoms_of es)
  one_made at q e h m =
      one_does_not passes (atoms_of es) k entry_at at_k m (ap (λ (x : ResourceAtom). cond (is_made_in level (atom_of x)) false true) e ∙ ap (λ (b : Bool). cond b false true) (eq-eqb at level h))

  pub made_elsewhere : (at : ℕ) (q : ResourceId) → (get_or es k d).1 ≡ atom.Made at q → (at ≡ level → ⊥) → LeftAt k → LeftAt (k + 1)
  made_elsewhere at q e h m =
      each_holds passes (atoms_of es) k entry_at at_k m (ap (λ (x : ResourceAtom). cond (is_made_in level (atom_of x)) false true) e ∙ ap (λ (b : Bool). cond b false true) (differs at level h))
    where
      differs : (m n : ℕ) → (m ≡ n → ⊥) → eqb m n ≡ false
      differs m n h = grind (arith, nat_tests)

  pub none_there : ((at : ℕ) (q : ResourceId) → (get_or es k d).1 ≡ atom.Made at q → ⊥) → LeftAt k → LeftAt (k + 1)
  none_there h m = each_holds passes (atoms_of es) k entry_at at_k m (ap (λ (b : Bool). cond b false true) (not_made level (get_or es k d).1 h))
