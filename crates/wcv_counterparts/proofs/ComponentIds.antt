-- The pass over component types by ids.
use Rattle.std.proofs.Common.{◌≡◌, ℕ, suc, ◌≤◌, ◌<◌, List, ◌++◌, map, Bool, true, false, ◌&&◌, cond, Option, None, Some, refl, sym, ◌∙◌, ap, subst, arith}
use Rattle.std.specs.Prelude.{All}
use Rattle.std.specs.List.{list_all}
use Rattle.std.proofs.lemmas.List.Folds.{list_all-map}
use Rattle.wcv_core.specs.CoreForm.{Group}
use Rattle.wcv_core.specs.Names.{Name, number, member}
use Rattle.wcv_types.specs.Arena.{Arena}
use Rattle.wcv_types.specs.Entities.{entry_tree, EntryStands}
use Rattle.wcv_types.specs.Standing.{Stands, StandsBefore}
use Rattle.wcv_types.specs.Tree.{Text, node, import, export, here, label, core_import, core_export, Parts, none, part, is_component, sort, head, firsts, imported}
use Rattle.wcv_types.specs.Unfold.{Type_tree, entry_slots, parts_in, parts_of, resource_path, trees, unfolded}
use Rattle.wcv_types.specs.declared.arena.Node.TheVariants as n
use Rattle.wcv_types.specs.declared.component_type.ComponentType.{ComponentType}
use Rattle.wcv_types.specs.declared.ids.Part.{Part}
use Rattle.wcv_types.specs.declared.ids.ResourceId.{ResourceId}
use Rattle.wcv_types.proofs.EntryParts.{component_imports}
use Rattle.wcv_types.proofs.Gathered.{parts_ready}
use Rattle.wcv_types.proofs.Knowing.{parts_in-append}
use Rattle.wcv_types.proofs.Unfolding.{all_left}
use Rattle.wcv_matching.specs.AtomTests.{id_tests}
use Rattle.wcv_matching.specs.Matching.{Reading, named, named_exports, named_imports, named_imports_in}
use Rattle.wcv_matching.specs.OnePass.{Atom, component_at, counterpart, defined_in, each_passes, exports_at, imported_in, imported_paths, is_made_in, left_at, made_in, made_paths, match_below, one_to_one, opened_at, own_pair_up, owned_in, pairs_pass, right_at, same_below}
use Rattle.wcv_matching.specs.Orderly.{height, heights}
use Rattle.wcv_matching.specs.SameTypes.{defined_by}
use Rattle.wcv_matching.proofs.NamedLists.{map-map}
use Rattle.wcv_counterparts.specs.IdCounterparts.{counterparts_of}
use Rattle.wcv_atoms.specs.IdPasses.{Answers, AnswersEntries, named_trees, tallest}
use Rattle.wcv_counterparts.specs.OwnResources.{going, opens_by_none_made, read_as, Opened, OpenedBy, Paired, PairedBy}
use Rattle.wcv_atoms.specs.Readings.{atoms_of, over}
use Rattle.wcv_counterparts.specs.declared.own_resources.OwnAtoms.{OwnAtoms}
use Rattle.wcv_atoms.specs.declared.readings.ResourceAtom.{ResourceAtom}
use Rattle.wcv_counterparts.proofs.Exporting.{component_names}
use Rattle.wcv_counterparts.proofs.OwnReadings.{own_over, read-going}
use Rattle.wcv_atoms.proofs.PassIds.{entries_stand}
use Rattle.wcv_atoms.proofs.PassSteps.{answers_made, exports_lower}

-- ## Imports by ids

imports_low : (ps : Parts Name Name) → tallest (named_imports_in ps) ≤ heights ps
imports_low none = omega arith
imports_low (part (import m) t ps) = let l = imports_low ps in omega (arith, l)
imports_low (part here t ps) = let l = imports_low ps in omega (arith, l)
imports_low (part (label m) t ps) = let l = imports_low ps in omega (arith, l)
imports_low (part (export m) t ps) = let l = imports_low ps in omega (arith, l)
imports_low (part (core_import l m) t ps) = let w = imports_low ps in omega (arith, w)
imports_low (part (core_export m) t ps) = let l = imports_low ps in omega (arith, l)

imports_lower : (t : Type_tree) → tallest (named_imports t) < height t
imports_lower (node h ps) = let l = imports_low ps in omega (arith, l)

import_names : (a : Arena) (i : ℕ) (s : ComponentType) (t : Type_tree) → t ≡ unfolded a i (n.Component s) → named_imports t ≡ named_trees (trees a.nodes) s.imports
import_names a i s t e =
    ap (λ (w : Type_tree). named_imports w) e ∙ ap (λ (es : _). named es) (component_imports (trees a.nodes) s.imports s.exports) ∙ map-map (λ (w : _). (w.0.name, w.1)) (entry_tree (trees a.nodes)) s.imports

pub imports_stand : (a : Arena) (i : ℕ) (s : ComponentType) → All (StandsBefore a (suc i)) (parts_of (n.Component s)) → All (EntryStands a) s.imports
imports_stand a i s h =
    entries_stand a import s.imports (all_left (Stands a) (parts_in (entry_slots import s.imports)) (parts_in (entry_slots export s.exports))
    (subst (λ (qs : List Part). All (Stands a) qs) (parts_in-append (entry_slots import s.imports) (entry_slots export s.exports)) (parts_ready a (suc i) (parts_of (n.Component s)) (parts_of (n.Component s)) refl h (omega arith)).1))

module _ (a : Arena) (i : ℕ) (s : ComponentType) (x : Type_tree) (e : x ≡ unfolded a i (n.Component s)) where
  pub imports_below : tallest (named_trees (trees a.nodes) s.imports) < height x
  imports_below = subst (λ (es : List (Text × Type_tree)). tallest es < height x) (import_names a i s x e) (imports_lower x)

  pub exports_below : tallest (named_trees (trees a.nodes) s.exports) < height x
  exports_below = subst (λ (es : List (Text × Type_tree)). tallest es < height x) (component_names a i s x e) (exports_lower x)

  -- ## Own resources by ids

  own_read : (f g h : Reading Atom) (to from : Name → Name) (es : List (Name × Atom)) → es ≡ read_as f (going to (imported x)) ++ read_as g (going from (defined_by x)) → over es h ≡ component_at (head x) (λ r. f (to r)) (λ r. g (from r)) h
  own_read f g h to from es =
      subst (λ (w : Type_tree). es ≡ read_as f (going to (imported w)) ++ read_as g (going from (defined_by w)) → over es h ≡ component_at (head w) (λ r. f (to r)) (λ r. g (from r)) h) (sym e)
      (own_over (number i) (map resource_path s.imported_resources) (map resource_path s.defined_resources) f g h to from es)

  pub imported_are : going (λ r. r) (firsts (map resource_path s.imported_resources)) ≡ going (λ r. r) (imported x)
  imported_are = ap (λ (w : Type_tree). going (λ r. r) (imported w)) (sym e)

  defined_are : going (λ r. r) (firsts (map resource_path s.defined_resources)) ≡ going (λ r. r) (defined_by x)
  defined_are = ap (λ (w : Type_tree). going (λ r. r) (defined_by w)) (sym e)

  -- as the right component reads them
  pub right_over : (k : ℕ) (g : Reading Atom) (es : List (Name × Atom)) → es ≡ read_as (owned_in k) (going (λ r. r) (firsts (map resource_path s.imported_resources))) ++ read_as (made_in k) (going (λ r. r) (firsts (map resource_path s.defined_resources))) →
      over es g ≡ right_at k (head x) g
  right_over k g es m = own_read (owned_in k) (made_in k) g (λ r. r) (λ r. r) es (m ∙ (λ j. read_as (owned_in k) (imported_are j) ++ read_as (made_in k) (defined_are j)))

  module _ (j : ℕ) (t : ComponentType) (y : Type_tree) (h : y ≡ unfolded a j (n.Component t)) where
    -- what stands for the imported resources in the imports of the other, and for the defined ones in its exports
    pub imported_go : counterparts_of (map resource_path s.imported_resources) (named_trees (trees a.nodes) s.imports) (named_trees (trees a.nodes) t.imports) ≡ going (imported_in x y) (imported x)
    imported_go =
        (λ l. counterparts_of (map resource_path s.imported_resources) (sym (import_names a i s x e) l) (sym (import_names a j t y h) l)) ∙
        ap (λ (w : Type_tree). going (counterpart (imported_paths (head w)) (named_imports x) (named_imports y)) (imported w)) (sym e)

    pub defined_go : counterparts_of (map resource_path s.defined_resources) (named_trees (trees a.nodes) s.exports) (named_trees (trees a.nodes) t.exports) ≡ going (defined_in x y) (defined_by x)
    defined_go =
        (λ l. counterparts_of (map resource_path s.defined_resources) (sym (component_names a i s x e) l) (sym (component_names a j t y h) l)) ∙
        ap (λ (w : Type_tree). going (counterpart (made_paths (head w)) (named_exports x) (named_exports y)) (defined_by w)) (sym e)

  -- ## Where both are to be the same

  module _ (y : Type_tree) where
    pub pair_told : (one two : Bool) → one ≡ one_to_one (λ r. false) (imported_in x y) (imported x) → two ≡ one_to_one (λ r. member r (firsts (map resource_path s.imported_resources))) (defined_in x y) (defined_by x) →
        own_pair_up x y ≡ (one && two)
    pair_told one two p q = λ l. sym p l && (ap (λ (w : Type_tree). one_to_one (λ r. member r (imported w)) (defined_in x y) (defined_by x)) e ∙ sym q) l

    pub paired_left : (k : ℕ) (f : Reading Atom) (ins : List (Name × Name)) (es : List (Name × Atom)) → ins ≡ going (imported_in x y) (imported x) →
        es ≡ read_as (owned_in k) ins ++ read_as (made_in k) (going (λ r. r) (firsts (map resource_path s.defined_resources))) → over es f ≡ component_at (head x) (λ r. owned_in k (imported_in x y r)) (made_in k) f
    paired_left k f ins es p m = own_read (owned_in k) (made_in k) f (imported_in x y) (λ r. r) es (m ∙ (λ l. read_as (owned_in k) (p l) ++ read_as (made_in k) (defined_are l)))

    pub paired_exports : (k : ℕ) (f : Reading Atom) (ins outs : List (Name × Name)) (es : List (Name × Atom)) → ins ≡ going (imported_in x y) (imported x) → outs ≡ going (defined_in x y) (defined_by x) →
        es ≡ read_as (owned_in k) ins ++ read_as (made_in k) outs → over es f ≡ component_at (head x) (λ r. owned_in k (imported_in x y r)) (λ r. made_in k (defined_in x y r)) f
    paired_exports k f ins outs es p q m = own_read (owned_in k) (made_in k) f (imported_in x y) (defined_in x y) es (m ∙ (λ l. read_as (owned_in k) (p l) ++ read_as (made_in k) (q l)))

    -- ## Where the one is to match the other

    pub opened_left : (k : ℕ) (f g u : Reading Atom) (es : List (Name × Atom)) → u ≡ right_at k (head y) g →
        es ≡ read_as u (going (imported_in x y) (imported x)) ++ read_as (made_in k) (going (λ r. r) (firsts (map resource_path s.defined_resources))) → over es f ≡ left_at k f g x y
    opened_left k f g u es v m =
        own_read (right_at k (head y) g) (made_in k) f (imported_in x y) (λ r. r) es (m ∙ (λ l. read_as (v l) (going (imported_in x y) (imported x)) ++ read_as (made_in k) (defined_are l)))

pub pair_no : (x y : Type_tree) (one : Bool) → one ≡ one_to_one (λ r. false) (imported_in x y) (imported x) → one ≡ false → own_pair_up x y ≡ false
pair_no x y one p f = ap (λ (b : Bool). b && one_to_one (λ r. member r (imported x)) (defined_in x y) (defined_by x)) (sym p ∙ f)

pub none_made_told : (x y : Type_tree) (k : ℕ) (g u : Reading Atom) (es : List (Name × Atom)) → u ≡ right_at k (head y) g → es ≡ read_as u (going (imported_in x y) (imported x)) →
    list_all (λ (q : Name × Atom). cond (is_made_in k q.1) false true) es ≡ opens_by_none_made k g x y
none_made_told x y k g u es v m =
    ap (list_all (λ (q : Name × Atom). cond (is_made_in k q.1) false true)) (m ∙ (λ l. read_as (v l) (going (imported_in x y) (imported x))) ∙ read-going (right_at k (head y) g) (imported_in x y) (imported x)) ∙
    list_all-map (λ (q : Name × Atom). cond (is_made_in k q.1) false true) (λ (r : Name). (r, opened_at k g x y r)) (imported x)

-- those that the right component defines are read as what the left one has for them
pub opened_exports : (a : Arena) (j : ℕ) (t : ComponentType) (y : Type_tree) (h : y ≡ unfolded a j (n.Component t)) (x : Type_tree) (k : ℕ) (f g u : Reading Atom) (es : List (Name × Atom)) → u ≡ left_at k f g x y →
    es ≡ read_as (owned_in k) (going (λ r. r) (imported y)) ++ read_as u (going (defined_in y x) (defined_by y)) → over es g ≡ exports_at k f g x y
opened_exports a j t y h x k f g u es v m =
    own_read a j t y h (owned_in k) (left_at k f g x y) g (λ r. r) (defined_in y x) es (m ∙ (λ l. read_as (owned_in k) (going (λ r. r) (imported y)) ++ read_as (v l) (going (defined_in y x) (defined_by y))))

-- ## Entries

-- answers for other readings of the same, and other lists
pub entries_moved : (gs : List Group) (exact : Bool) (m k : ℕ) (f g f' g' : Reading Atom) (es fs es' fs' : List (Text × Type_tree)) (c c' : Bool) → m ≡ k → f ≡ f' → g ≡ g' → es ≡ es' → fs ≡ fs' → c ≡ c' →
    AnswersEntries gs exact m f g es fs c → AnswersEntries gs exact k f' g' es' fs' c'
entries_moved gs exact m k f g f' g' es fs es' fs' c c' u p q e h v w = subst (λ (z : Type 0). z) (λ j. AnswersEntries gs exact (u j) (p j) (q j) (e j) (h j) (v j)) w

module _ (gs : List Group) (k : ℕ) (f g : Reading Atom) (x y : Type_tree) (ex : sort x ≡ is_component) (ey : sort y ≡ is_component) where
  abbrev pub in_imports : Reading Atom
  in_imports = component_at (head x) (λ r. owned_in k (imported_in x y r)) (made_in k) f

  abbrev pub in_exports : Reading Atom
  in_exports = component_at (head x) (λ r. owned_in k (imported_in x y r)) (λ r. made_in k (defined_in x y r)) f

  abbrev same_imports : ℕ → Bool
  same_imports d = pairs_pass (same_below (id_tests gs) d (suc k) in_imports (right_at k (head y) g)) (named_imports x) (named_imports y)

  abbrev same_exports : ℕ → Bool
  same_exports d = pairs_pass (same_below (id_tests gs) d (suc k) in_exports (right_at k (head y) g)) (named_exports x) (named_exports y)

  abbrev imports_match : ℕ → Bool
  imports_match d = each_passes (match_below (id_tests gs) d (suc k) (right_at k (head y) g) (left_at k f g x y)) (named_imports y) (named_imports x)

  abbrev exports_match : ℕ → Bool
  exports_match d = each_passes (match_below (id_tests gs) d (suc k) (left_at k f g x y) (exports_at k f g x y)) (named_exports x) (named_exports y)

  pub same_unpaired : own_pair_up x y ≡ false → Answers gs true k f g x y false
  same_unpaired e = answers_made gs true is_component k f g x y ex ey (λ d l r. sym (λ j. e j && (same_imports d && same_exports d)))

  pub same_first_no : own_pair_up x y ≡ true → AnswersEntries gs true (suc k) in_imports (right_at k (head y) g) (named_imports x) (named_imports y) false → Answers gs true k f g x y false
  same_first_no e m = answers_made gs true is_component k f g x y ex ey (λ d l r.
      let p = imports_lower x in let q = imports_lower y in
      sym (λ j. e j && (sym (m d (omega (arith, p, l)) (omega (arith, q, r))) j && same_exports d)))

  pub same_both : {c : Bool} → own_pair_up x y ≡ true → AnswersEntries gs true (suc k) in_imports (right_at k (head y) g) (named_imports x) (named_imports y) true →
      AnswersEntries gs true (suc k) in_exports (right_at k (head y) g) (named_exports x) (named_exports y) c → Answers gs true k f g x y c
  same_both e m w = answers_made gs true is_component k f g x y ex ey (λ d l r.
      let p = imports_lower x in let q = imports_lower y in let u = exports_lower x in let v = exports_lower y in
      sym (λ j. e j && (sym (m d (omega (arith, p, l)) (omega (arith, q, r))) j && sym (w d (omega (arith, u, l)) (omega (arith, v, r))) j)))

  pub match_first_no : opens_by_none_made k g x y ≡ true → AnswersEntries gs false (suc k) (right_at k (head y) g) (left_at k f g x y) (named_imports y) (named_imports x) false → Answers gs false k f g x y false
  match_first_no e m = answers_made gs false is_component k f g x y ex ey (λ d l r.
      let p = imports_lower x in let q = imports_lower y in
      sym (λ j. e j && (sym (m d (omega (arith, q, r)) (omega (arith, p, l))) j && exports_match d)))

  pub match_both : {c : Bool} → opens_by_none_made k g x y ≡ true → AnswersEntries gs false (suc k) (right_at k (head y) g) (left_at k f g x y) (named_imports y) (named_imports x) true →
      AnswersEntries gs false (suc k) (left_at k f g x y) (exports_at k f g x y) (named_exports x) (named_exports y) c → Answers gs false k f g x y c
  match_both e m w = answers_made gs false is_component k f g x y ex ey (λ d l r.
      let p = imports_lower x in let q = imports_lower y in let u = exports_lower x in let v = exports_lower y in
      sym (λ j. e j && (sym (m d (omega (arith, q, r)) (omega (arith, p, l))) j && sym (w d (omega (arith, u, l)) (omega (arith, v, r))) j)))

-- ## By ids

module _ (a : Arena) (i : ℕ) (s : ComponentType) (x : Type_tree) (e : x ≡ unfolded a i (n.Component s)) (j : ℕ) (t : ComponentType) (y : Type_tree) (h : y ≡ unfolded a j (n.Component t)) (k m : ℕ) (u : m ≡ suc k) (f g : Reading Atom) where
  ex : sort x ≡ is_component
  ex = ap (λ (z : Type_tree). sort z) e

  ey : sort y ≡ is_component
  ey = ap (λ (z : Type_tree). sort z) h

  abbrev Imports : Bool → Reading Atom → Reading Atom → Bool → Type 0
  Imports exact F G c = AnswersEntries a.core exact m F G (named_trees (trees a.nodes) s.imports) (named_trees (trees a.nodes) t.imports) c

  abbrev Imports_back : Reading Atom → Reading Atom → Bool → Type 0
  Imports_back F G c = AnswersEntries a.core false m F G (named_trees (trees a.nodes) t.imports) (named_trees (trees a.nodes) s.imports) c

  abbrev Exports : Bool → Reading Atom → Reading Atom → Bool → Type 0
  Exports exact F G c = AnswersEntries a.core exact m F G (named_trees (trees a.nodes) s.exports) (named_trees (trees a.nodes) t.exports) c

  imports_told : (F G F' G' : Reading Atom) (c c' : Bool) → F ≡ F' → G ≡ G' → c ≡ c' → Imports true F G c → AnswersEntries a.core true (suc k) F' G' (named_imports x) (named_imports y) c'
  imports_told F G F' G' c c' p q v w = entries_moved a.core true m (suc k) F G F' G' _ _ _ _ c c' u p q (sym (import_names a i s x e)) (sym (import_names a j t y h)) v w

  imports_back : (F G F' G' : Reading Atom) (c c' : Bool) → F ≡ F' → G ≡ G' → c ≡ c' → Imports_back F G c → AnswersEntries a.core false (suc k) F' G' (named_imports y) (named_imports x) c'
  imports_back F G F' G' c c' p q v w = entries_moved a.core false m (suc k) F G F' G' _ _ _ _ c c' u p q (sym (import_names a j t y h)) (sym (import_names a i s x e)) v w

  exports_told : (exact : Bool) (F G F' G' : Reading Atom) (c : Bool) → F ≡ F' → G ≡ G' → Exports exact F G c → AnswersEntries a.core exact (suc k) F' G' (named_exports x) (named_exports y) c
  exports_told exact F G F' G' c p q w = entries_moved a.core exact m (suc k) F G F' G' _ _ _ _ c c u p q (sym (component_names a i s x e)) (sym (component_names a j t y h)) refl w

  pub same_none : (w : Option OwnAtoms) → w ≡ None → Paired k x y w → Answers a.core true k f g x y false
  same_none w is m = same_unpaired a.core k f g x y ex ey (subst (Paired k x y) is m)

  pub same_first : (w : Option OwnAtoms) (o : OwnAtoms) → w ≡ Some o → Paired k x y w → (f' g' : Reading Atom) → f' ≡ f → g' ≡ g → (ls rs : List (ResourceId × ResourceAtom)) → ls ≡ o.left.items → rs ≡ o.right.items →
      (c : Bool) → c ≡ false → Imports true (over (atoms_of ls) f') (over (atoms_of rs) g') c → Answers a.core true k f g x y false
  same_first w o is m f' g' ef eg ls rs el er c v n =
      let b : PairedBy k x y o = subst (Paired k x y) is m in
      same_first_no a.core k f g x y ex ey b.pair_up (imports_told _ _ _ _ c false ((λ l. over (ap (λ es. atoms_of es) el l) (ef l)) ∙ b.left f) ((λ l. over (ap (λ es. atoms_of es) er l) (eg l)) ∙ b.right g) v n)

  pub same_second : (w : Option OwnAtoms) (o : OwnAtoms) → w ≡ Some o → Paired k x y w → (f' g' : Reading Atom) → f' ≡ f → g' ≡ g → (ls rs : List (ResourceId × ResourceAtom)) → ls ≡ o.left.items → rs ≡ o.right.items →
      (c : Bool) → c ≡ true → Imports true (over (atoms_of ls) f') (over (atoms_of rs) g') c →
      (f'' g'' : Reading Atom) → f'' ≡ f → g'' ≡ g → (os qs : List (ResourceId × ResourceAtom)) → os ≡ o.exports.items → qs ≡ o.right.items → (d : Bool) → Exports true (over (atoms_of os) f'') (over (atoms_of qs) g'') d → Answers a.core true k f g x y d
  same_second w o is m f' g' ef eg ls rs el er c v n f'' g'' hf hg os qs eo eq d r =
      let b : PairedBy k x y o = subst (Paired k x y) is m in
      same_both a.core k f g x y ex ey b.pair_up (imports_told _ _ _ _ c true ((λ l. over (ap (λ es. atoms_of es) el l) (ef l)) ∙ b.left f) ((λ l. over (ap (λ es. atoms_of es) er l) (eg l)) ∙ b.right g) v n)
      (exports_told true _ _ _ _ d ((λ l. over (ap (λ es. atoms_of es) eo l) (hf l)) ∙ b.exports f) ((λ l. over (ap (λ es. atoms_of es) eq l) (hg l)) ∙ b.right g) r)

  pub match_first : (w : Option OwnAtoms) (o : OwnAtoms) → w ≡ Some o → Opened k f g x y w → (f' g' : Reading Atom) → f' ≡ f → g' ≡ g → (ls rs : List (ResourceId × ResourceAtom)) → ls ≡ o.left.items → rs ≡ o.right.items →
      (c : Bool) → c ≡ false → Imports_back (over (atoms_of rs) g') (over (atoms_of ls) f') c → Answers a.core false k f g x y false
  match_first w o is m f' g' ef eg ls rs el er c v n =
      let b : OpenedBy k f g x y o = subst (Opened k f g x y) is m in
      match_first_no a.core k f g x y ex ey b.none_made (imports_back _ _ _ _ c false ((λ l. over (ap (λ es. atoms_of es) er l) (eg l)) ∙ b.right) ((λ l. over (ap (λ es. atoms_of es) el l) (ef l)) ∙ b.left) v n)

  pub match_second : (w : Option OwnAtoms) (o : OwnAtoms) → w ≡ Some o → Opened k f g x y w → (f' g' : Reading Atom) → f' ≡ f → g' ≡ g → (ls rs : List (ResourceId × ResourceAtom)) → ls ≡ o.left.items → rs ≡ o.right.items →
      (c : Bool) → c ≡ true → Imports_back (over (atoms_of rs) g') (over (atoms_of ls) f') c →
      (f'' g'' : Reading Atom) → f'' ≡ f → g'' ≡ g → (ms os : List (ResourceId × ResourceAtom)) → ms ≡ o.left.items → os ≡ o.exports.items → (d : Bool) → Exports false (over (atoms_of ms) f'') (over (atoms_of os) g'') d → Answers a.core false k f g x y d
  match_second w o is m f' g' ef eg ls rs el er c v n f'' g'' hf hg ms os em eo d r =
      let b : OpenedBy k f g x y o = subst (Opened k f g x y) is m in
      match_both a.core k f g x y ex ey b.none_made (imports_back _ _ _ _ c true ((λ l. over (ap (λ es. atoms_of es) er l) (eg l)) ∙ b.right) ((λ l. over (ap (λ es. atoms_of es) el l) (ef l)) ∙ b.left) v n)
      (exports_told false _ _ _ _ d ((λ l. over (ap (λ es. atoms_of es) em l) (hf l)) ∙ b.left) ((λ l. over (ap (λ es. atoms_of es) eo l) (hg l)) ∙ b.exports) r)
