-- The type at an end and its causes under a map of entries; where no cause stands there, there is one.
use Rattle.std.proofs.Common.{◌≡◌, ℕ, List, [], ◌∷◌, ◌++◌, map, refl, sym, ◌∙◌, ap, Bool, true, false, cond, ◌||◌, Some, None}
use Rattle.std.specs.Prelude.{Option, not}
use Rattle.std.specs.Option.{option_map, option_and_then}
use Rattle.std.proofs.lemmas.Bool.{false≢true}
use Rattle.wcv_core.specs.declared.core_types.ValType.{ValType}
use Rattle.wcv_core.specs.declared.error.ErrorKind.TheVariants as kind
use Rattle.wcv_lower.specs.Checks.{IsFree, is_none}
use Rattle.wcv_lower.specs.Context.{Kind, concrete, declares_instance, declares_component, Context, importing, exporting}
use Rattle.wcv_lower.specs.Defined.{is_empty}
use Rattle.wcv_lower.specs.Ending.{is_free_among, any_free, keep, kept, component_of, component_made, type_at_end, end_checks, component_end_checks, instance_made, declared_made, declared_end_checks}
use Rattle.wcv_lower.specs.Mapped.{Map, Commutes, map_entries, map_paths, map_defined, map_context, map_node}
use Rattle.wcv_lower.specs.Readers.{Reader, Named, New_node, instance_node}
use Rattle.wcv_lower.specs.Marks.{unused_checks}
use Rattle.wcv_lower.proofs.Causes.{free_right}
use Rattle.wcv_lower.proofs.Mapping.{mapped-square}

pub none-mapped : {A B : Type 0} (f : A → B) (o : Option A) → is_none (option_map f o) ≡ is_none o
none-mapped f None = refl
none-mapped f (Some x) = refl

module _ {X Y : Reader} (m : Map X Y) {Known : X.Entry → Type 0} (law : Commutes m Known) where
  free_among-mapped : (r : X.Resource) (es : Named X) → is_free_among Y (m.resource r) (map_entries m.entry es) ≡ is_free_among X r es
  free_among-mapped r [] = refl
  free_among-mapped r (e ∷ es) = λ j. law.is_free r e.1 j || free_among-mapped r es j

  pub any_free-mapped : (ds : List (X.Resource × Option ValType)) (es : Named X) → any_free Y (map_defined m ds) (map_entries m.entry es) ≡ any_free X ds es
  any_free-mapped [] es = refl
  any_free-mapped (d ∷ ds) es = λ j. free_among-mapped d.0 es j || any_free-mapped ds es j

  keep-mapped : (r : X.Resource) (es : Named X) (ps : List (X.Resource × List ℕ)) → keep Y (m.resource r) (map_entries m.entry es) (map_paths m.resource ps) ≡ option_map (map_paths m.resource) (keep X r es ps)
  keep-mapped r es ps =
      (λ j. cond (free_among-mapped r es j) (option_map (λ p. (m.resource r, p) ∷ map_paths m.resource ps) (law.first_path r es j)) (Some (map_paths m.resource ps))) ∙ go (is_free_among X r es) (X.first_path r es)
    where
      go : (b : Bool) (o : Option (List ℕ)) → cond b (option_map (λ p. (m.resource r, p) ∷ map_paths m.resource ps) o) (Some (map_paths m.resource ps)) ≡ option_map (map_paths m.resource) (cond b (option_map (λ p. (r, p) ∷ ps) o) (Some ps))
      go true None = refl
      go true (Some p) = refl
      go false o = refl

  pub kept-mapped : (ds : List (X.Resource × Option ValType)) (es : Named X) → kept Y (map_defined m ds) (map_entries m.entry es) ≡ option_map (map_paths m.resource) (kept X ds es)
  kept-mapped [] es = refl
  kept-mapped (d ∷ ds) es = ap (option_and_then (keep Y (m.resource d.0) (map_entries m.entry es))) (kept-mapped ds es) ∙ go (kept X ds es)
    where
      go : (o : Option (List (X.Resource × List ℕ))) → option_and_then (keep Y (m.resource d.0) (map_entries m.entry es)) (option_map (map_paths m.resource) o) ≡ option_map (map_paths m.resource) (option_and_then (keep X d.0 es) o)
      go None = refl
      go (Some ps) = keep-mapped d.0 es ps

  -- ## The type

  component_made-mapped : (c : Context X) → component_made (map_context m c) ≡ option_map (map_node m) (component_made c)
  component_made-mapped c =
      (λ j. cond (any_free-mapped c.defined (c.side importing) j) None (option_map (component_of (map_context m c)) (kept-mapped c.defined (c.side exporting) j))) ∙
      go (any_free X c.defined (c.side importing)) (kept X c.defined (c.side exporting))
    where
      go : (b : Bool) (o : Option (List (X.Resource × List ℕ))) → cond b None (option_map (component_of (map_context m c)) (option_map (map_paths m.resource) o)) ≡ option_map (map_node m) (cond b None (option_map (component_of c) o))
      go true o = refl
      go false None = refl
      go false (Some ds) = refl

  pub type_at_end-mapped : (u : New_node X → X.Entry) (v : New_node Y → Y.Entry) → ((n : New_node X) → v (map_node m n) ≡ m.entry (u n)) → (c : Context X) → type_at_end v (map_context m c) ≡ option_map m.entry (type_at_end u c)
  type_at_end-mapped u v h c = ap (option_map v) (component_made-mapped c) ∙ mapped-square (map_node m) v u m.entry h (component_made c)

  pub end_checks-mapped : (c : Context X) → end_checks (map_context m c) ≡ end_checks c
  end_checks-mapped c = λ j.
      (kind.ResourceScope, any_free-mapped c.defined (c.side importing) j)
      ∷ (kind.ResourceScope, (ap is_none (kept-mapped c.defined (c.side exporting)) ∙ none-mapped (map_paths m.resource) (kept X c.defined (c.side exporting))) j) ∷ []

  pub component_end_checks-mapped : (c : Context X) → component_end_checks (map_context m c) ≡ component_end_checks c
  component_end_checks-mapped c = λ j. unused_checks c ++ end_checks-mapped c j

  -- ## Declared types

  own-mapped : (ds : List (X.Resource × Option ValType)) → map (λ d. d.0) (map_defined m ds) ≡ map m.resource (map (λ d. d.0) ds)
  own-mapped [] = refl
  own-mapped (d ∷ ds) = ap (λ rs. m.resource d.0 ∷ rs) (own-mapped ds)

  pub declared_made-mapped : (k : Kind) (c : Context X) → declared_made k (map_context m c) ≡ option_map (map_node m) (declared_made k c)
  declared_made-mapped declares_instance c = λ j. Some (instance_node (own-mapped c.defined j) (map_entries m.entry (c.side exporting)))
  declared_made-mapped declares_component c = component_made-mapped c
  declared_made-mapped concrete c = component_made-mapped c

  empty-mapped : (es : Named X) → is_empty (map_entries m.entry es) ≡ is_empty es
  empty-mapped [] = refl
  empty-mapped (e ∷ es) = refl

  pub declared_end_checks-mapped : (k : Kind) (c : Context X) → declared_end_checks k (map_context m c) ≡ declared_end_checks k c
  declared_end_checks-mapped declares_instance c = λ j. (kind.Shape, not (empty-mapped (c.side importing) j)) ∷ []
  declared_end_checks-mapped declares_component c = end_checks-mapped c
  declared_end_checks-mapped concrete c = component_end_checks-mapped c

-- ## Without a cause

pub component_there : {X : Reader} (c : Context X) → IsFree (end_checks c) → (n : New_node X) × (component_made c ≡ Some n)
component_there {X} c h = go (kept X c.defined (c.side exporting)) refl h.1.0
  where
    go : (o : Option (List (X.Resource × List ℕ))) → kept X c.defined (c.side exporting) ≡ o → is_none o ≡ false → (n : New_node X) × (component_made c ≡ Some n)
    go None e n = absurd (false≢true (sym n))
    go (Some ds) e n = (component_of c ds, (λ j. cond (h.0 j) None (option_map (component_of c) (e j))))

pub has_type : {X : Reader} (build : New_node X → X.Entry) (c : Context X) → IsFree (end_checks c) → (x : X.Entry) × (type_at_end build c ≡ Some x)
has_type build c h =
    let n = component_there c h in
    (build n.0, ap (option_map build) n.1)

-- there is a node of what is declared
pub has_node : {X : Reader} (k : Kind) (c : Context X) → IsFree (declared_end_checks k c) → (n : New_node X) × (declared_made k c ≡ Some n)
has_node declares_instance c h = (instance_made c, refl)
has_node declares_component c h = component_there c h
has_node concrete c h = component_there c (free_right (unused_checks c) (end_checks c) h)
