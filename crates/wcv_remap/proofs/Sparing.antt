-- Maps that were given no node: what they serve as, and the types that stay.
use Rattle.std.proofs.Common.{◌≡◌, ℕ, length, suc, Bool, true, false, not, ◌&&◌, ap, refl, sym, ◌∙◌, arith, eq-eqb}
use Rattle.std.proofs.lemmas.Bool.{false≢true}
use Rattle.std.proofs.lemmas.List.Folds.{list_any_at}
use Rattle.std.specs.Prelude.{None, Contains}
use Rattle.wcv_core.specs.Names.{Name}
use Rattle.wcv_types.proofs.Grown.{extends_refl}
use Rattle.wcv_types.proofs.Replacing.{none-given, closed-unchanged, closed-stays}
use Rattle.wcv_types.specs.Arena.{Arena}
use Rattle.wcv_types.specs.Identity.{Identity}
use Rattle.wcv_types.specs.Rebuild.{sort_number}
use Rattle.wcv_types.specs.Replacing.{Replacement, moved, SparesOwn, SparesOwnIn}
use Rattle.wcv_types.specs.Resources.{mentions}
use Rattle.wcv_types.specs.Standing.{Stands}
use Rattle.wcv_types.specs.Tree.{Tree, node, Parts, none, part}
use Rattle.wcv_types.specs.Unfold.{rank, tree_at}
use Rattle.wcv_types.specs.declared.ids.Part.{Part}
use Rattle.wcv_remap.specs.Hygiene.{Apart, ApartIn, Hygienic, HygienicIn}
use Rattle.wcv_remap.specs.Map.{Sent, Map, gives_types}
use Rattle.wcv_remap.specs.Remap.{Serves, Right, Sound, Reached, Remapped}
use Rattle.wcv_remap.proofs.Maps.{visits_none}
use Rattle.wcv_remap.proofs.Parts.{same_part-refl}

-- what they serve as gives none
pub nothing_given : (a : Arena) (map : Map) (m : Replacement) → Serves a map m → ((q : Part) (s : Sent) → Contains map.types (q, s) → s.given ≡ false) → (i : Identity) → m.nodes i ≡ None
nothing_given a map m s n i = s.others i (λ q e c g h. no (sym g ∙ n q e c))
  where
    no : true ≡ false → ⊥
    no e = cc

module _ (m : Replacement) (n : (i : Identity) → m.nodes i ≡ None) where
  mutual
    apart_all : (r : Name) (t : Tree Name Name) → Apart m r t
    apart_all r (node h ps) = (λ f. none-given m n h, apart_in r ps)

    apart_in : (r : Name) (ps : Parts Name Name) → ApartIn m r ps
    apart_in r none = tt
    apart_in r (part k t ps) = (apart_all r t, apart_in r ps)

  mutual
    pub sparing_hygienic : (t : Tree Name Name) → SparesOwn m t → Hygienic m t
    sparing_hygienic (node h ps) s = (λ r o. (ap (moved r) (s.0 r o), apart_in r ps), sparing_in ps s.1)

    sparing_in : (ps : Parts Name Name) → SparesOwnIn m ps → HygienicIn m ps
    sparing_in none s = tt
    sparing_in (part k t ps) s = (sparing_hygienic t s.0, sparing_in ps s.1)

-- ## What stays

none_given : (map : Map) → gives_types map ≡ false → (q : Part) (s : Sent) → Contains map.types (q, s) → s.given ≡ false
none_given map e q s c = go s.given refl
  where
    go : (b : Bool) → s.given ≡ b → b ≡ false
    go false h = refl
    go true h = absurd (false≢true (sym e ∙ list_any_at (λ (x : Part × Sent). x.1.given) map.types c.0 (q, s) c.1 (ap (λ (x : Part × Sent). x.1.given) c.2 ∙ h)))

stays_right : (a : Arena) (map : Map) (q : Part) → gives_types map ≡ false → mentions (tree_at a q) ≡ false → Stands a q → Right a map q q
stays_right a map q g e st = record {
  stands = st;
  of_sort = eq-eqb (sort_number q) (sort_number q) refl;
  becomes = λ m s. let n : (i : Identity) → m.nodes i ≡ None = nothing_given a map m s (none_given map g) in
      record {
        tree = sym (closed-stays m n (tree_at a q) e);
        another = closed-unchanged m n (tree_at a q) e ∙ ap not (sym (same_part-refl q));
      };
}

-- where no type is given, one in which no reference stands stays, and is not visited
pub remapped_stays : (a : Arena) (map : Map) (s : ℕ) (q : Part) → Stands a q → Sound a map → (not (gives_types map) && not (mentions (tree_at a q))) ≡ true → Remapped a a map map s s q q
remapped_stays a map s q st snd e = record {
  grown = extends_refl a;
  core = refl;
  visits = visits_none (Reached a q) (length a.nodes) (suc (rank q)) map;
  sound = snd;
  right = stays_right a map q (neither (gives_types map) (mentions (tree_at a q)) e).0 (neither (gives_types map) (mentions (tree_at a q)) e).1 st;
  steps = omega arith;
  nodes = omega arith;
}
  where
    neither : (b c : Bool) → (not b && not c) ≡ true → (b ≡ false) × (c ≡ false)
    neither false false h = (refl, refl)
    neither true c h = absurd (false≢true h)
    neither false true h = absurd (false≢true h)
