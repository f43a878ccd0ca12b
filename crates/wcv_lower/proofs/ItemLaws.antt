-- The laws of items, whether declared types, components or others: names of their places alone, renamed names, and what is without a
-- cause.
use Rattle.std.proofs.Common.{◌≡◌, ℕ, suc, ◌++◌, length, refl, sym, ◌∙◌, ap, true, Some}
use Rattle.std.specs.Option.{option_map, option_and_then}
use Rattle.std.proofs.Math.Nat.{suc_inj}
use Rattle.wcv_core.specs.Limits.{max_list}
use Rattle.wcv_core.specs.Names.{Place, deeper}
use Rattle.wcv_core.specs.declared.features.WasmFeatures.{WasmFeatures}
use Rattle.wcv_core.proofs.Places.{under-refl}
use Rattle.wcv_syntax.specs.Model.{Form, type_item, component_item, Items, no_items, next_item}
use Rattle.wcv_types.specs.Tree.{is_component}
use Rattle.wcv_types.proofs.Lists.{some-inj}
use Rattle.wcv_lower.specs.Checks.{IsFree, too_many, no_room}
use Rattle.wcv_lower.specs.Context.{concrete, Stack}
use Rattle.wcv_lower.specs.Declared.{Makers, inside, ended, declared_checks, declared_left}
use Rattle.wcv_lower.specs.DeclaredCalls.{FromDecl}
use Rattle.wcv_lower.specs.Growth.{step, grow, checks}
use Rattle.wcv_lower.specs.Items.{read_item, read_items, item_count, item_causes, EndsFree}
use Rattle.wcv_lower.specs.Mapped.{map_stack}
use Rattle.wcv_lower.specs.Names.{Names, Under, AreRenamed, SameNames}
use Rattle.wcv_lower.specs.Readers.{Reader}
use Rattle.wcv_lower.specs.Renamed.{Renaming, renaming}
use Rattle.wcv_lower.specs.Trees.{Tree_stack, tree_reader, tree_maker}
use Rattle.wcv_lower.proofs.Causes.{free_left}
use Rattle.wcv_lower.proofs.DeclaredDoes.{applied-outer, ended-outer, read_type-outer, ended_there, type_there}
use Rattle.wcv_lower.proofs.DeclaredLaws.{then-mapped, then-some, ended-mapped, full-mapped}
use Rattle.wcv_lower.proofs.DeclaredNames.{MakeSame, same_inside, same_first, same_rest, makers_agree, read_type-agrees, declared_checks-agree, Renames, renamed_inside, read_type-renamed, declared_checks-renamed}
use Rattle.wcv_lower.proofs.Growing.{grow-renamed, checks-renamed}
use Rattle.wcv_lower.proofs.GrowthLaws.{grows}
use Rattle.wcv_lower.proofs.MadeRenamed.{makes_renamed}
use Rattle.wcv_lower.proofs.Mapping.{counts-mapped}
use Rattle.wcv_lower.proofs.NewNames.{trees_tell}
use Rattle.wcv_lower.proofs.Renamed.{renaming_commutes}

-- ## The same names

module _ {X : Reader} (fs : WasmFeatures) (k l : Makers X) where
  mutual
    made_same : (p : Place) (s : Stack X) (f : Form) → MakeSame k l (Under p) → read_item fs l p s f ≡ read_item fs k p s f
    made_same p s (type_item t) h = read_type-agrees fs k l p s t h
    made_same p s (component_item is end) h = λ j. option_and_then (ended concrete (h p (under-refl p) j)) (read_items-agree p 0 (inside concrete s) is (same_inside k l p 0 h) j)
    made_same p s f h = λ j. grow fs (h p (under-refl p) j) s f

    -- items at p of which the first has position n look at the names of these places alone
    pub read_items-agree : (p : Place) (n : ℕ) (s : Stack X) (is : Items) → MakeSame k l (FromDecl p n) → read_items fs l p n s is ≡ read_items fs k p n s is
    read_items-agree p n s no_items h = refl
    read_items-agree p n s (next_item at f is) h = λ j. option_and_then (λ t. read_items-agree p (suc n) t is (same_rest k l p n h) j) (made_same (deeper p n) s f (same_first k l p n h) j)

module _ (n m : Names) (p : Place) (h : SameNames (Under p) n m) (fs : WasmFeatures) (s : Tree_stack) where
  makers : MakeSame {X = tree_reader} (tree_maker n) (tree_maker m) (Under p)
  makers = makers_agree n m (Under p) h

  pub read_item-agrees : (f : Form) → read_item fs (tree_maker m) p s f ≡ read_item fs (tree_maker n) p s f
  read_item-agrees f = made_same fs (tree_maker n) (tree_maker m) p s f makers

  pub item_causes-agree : (f : Form) → item_causes fs (tree_maker m) p s f ≡ item_causes fs (tree_maker n) p s f
  item_causes-agree (type_item t) = λ j. declared_checks-agree fs (tree_maker n) (tree_maker m) true p s t makers j ++ declared_left t
  item_causes-agree (component_item is end) = refl
  item_causes-agree f = λ j. checks fs (makers p (under-refl p) j) s f

-- ## Renamed names

module _ (w : Renaming) (n m : Names) (fs : WasmFeatures) where
  mutual
    renamed : (p : Place) → Renames w n m fs p → (s : Tree_stack) (f : Form) → read_item fs (tree_maker m) p (map_stack (renaming w) s) f ≡ option_map (map_stack (renaming w)) (read_item fs (tree_maker n) p s f)
    renamed p r s (type_item t) = read_type-renamed w n m fs p r s t
    renamed p r s (component_item is end) =
        ap (option_and_then (ended concrete (tree_maker m p))) (read_items-renamed p r 0 (inside concrete s) is) ∙
        then-mapped (ended concrete (tree_maker n p)) (ended concrete (tree_maker m p)) (map_stack (renaming w)) (map_stack (renaming w)) (read_items fs (tree_maker n) p 0 (inside concrete s) is)
        (λ t e. ended-mapped (renaming w) (renaming_commutes w) fs (tree_maker n) (tree_maker m) p concrete t (makes_renamed w n m p r _))
    renamed p r s f = grow-renamed w n m p r fs s f

    pub read_items-renamed : (p : Place) → Renames w n m fs p → (i : ℕ) (s : Tree_stack) (is : Items) → read_items fs (tree_maker m) p i (map_stack (renaming w) s) is ≡ option_map (map_stack (renaming w)) (read_items fs (tree_maker n) p i s is)
    read_items-renamed p r i s no_items = refl
    read_items-renamed p r i s (next_item at f is) =
        ap (option_and_then (λ t. read_items fs (tree_maker m) p (suc i) t is)) (renamed (deeper p i) (renamed_inside w n m fs p i r) s f) ∙
        then-mapped (λ t. read_items fs (tree_maker n) p (suc i) t is) (λ t. read_items fs (tree_maker m) p (suc i) t is) (map_stack (renaming w)) (map_stack (renaming w)) (read_item fs (tree_maker n) (deeper p i) s f) (λ t e. read_items-renamed p r (suc i) t is)

module _ (w : Renaming) (n m : Names) (p : Place) (r : AreRenamed (Under p) w.resources.to w.identities.to n m) (fs : WasmFeatures) (s : Tree_stack) where
  pub read_item-renamed : (f : Form) → read_item fs (tree_maker m) p (map_stack (renaming w) s) f ≡ option_map (map_stack (renaming w)) (read_item fs (tree_maker n) p s f)
  read_item-renamed f = renamed w n m fs p r s f

  pub item_causes-renamed : (f : Form) → item_causes fs (tree_maker m) p (map_stack (renaming w) s) f ≡ item_causes fs (tree_maker n) p s f
  item_causes-renamed (type_item t) = λ j. declared_checks-renamed w n m fs p r true s t j ++ declared_left t
  item_causes-renamed (component_item is end) =
      λ j. full-mapped (renaming w) (renaming_commutes w) fs (tree_maker n) (tree_maker m) s j ++ (no_room (counts-mapped (renaming w) (renaming_commutes w) s.top j) is_component ++ too_many max_list (item_count is))
  item_causes-renamed f = checks-renamed w n m p r fs s f

-- ## How many contexts stand on the stack

module _ (X : Reader) (fs : WasmFeatures) (mk : Makers X) where
  mutual
    -- as many as before
    pub read_item-outer : (p : Place) (s u : Stack X) (f : Form) → read_item fs mk p s f ≡ Some u → length u.outer ≡ length s.outer
    read_item-outer p s u (type_item t) e = read_type-outer X fs mk p s u t e
    read_item-outer p s u (component_item is end) e =
        let t = then-some (ended concrete (mk p)) (read_items fs mk p 0 (inside concrete s) is) u e in
        suc_inj (sym (ended-outer X fs mk concrete p t.0 u t.2) ∙ read_items-outer p 0 (inside concrete s) t.0 is t.1)
    read_item-outer p s u f e = applied-outer s u (step fs (mk p) s f) e

    pub read_items-outer : (p : Place) (n : ℕ) (s u : Stack X) (is : Items) → read_items fs mk p n s is ≡ Some u → length u.outer ≡ length s.outer
    read_items-outer p n s u no_items e = ap (λ (t : Stack X). length t.outer) (sym (some-inj e))
    read_items-outer p n s u (next_item at f is) e =
        let t = then-some (λ t. read_items fs mk p (suc n) t is) (read_item fs mk (deeper p n) s f) u e in
        read_items-outer p (suc n) t.0 u is t.2 ∙ read_item-outer (deeper p n) s t.0 f t.1

-- ## Without a cause

module _ (n : Names) (p : Place) (fs : WasmFeatures) (s : Tree_stack) where
  -- where there is no cause, and none at the end of a component, the item is read
  pub item_there : (f : Form) → IsFree (item_causes fs (tree_maker n) p s f) → EndsFree fs (tree_maker n) p s f → (u : Tree_stack) × (read_item fs (tree_maker n) p s f ≡ Some u)
  item_there (type_item t) h w = type_there tree_reader fs (tree_maker n) trees_tell true p s t (free_left (declared_checks true fs (tree_maker n) p s t) (declared_left t) h)
  item_there (component_item is end) h w =
      let v = ended_there tree_reader fs (tree_maker n) concrete p s w.0 (read_items-outer tree_reader fs (tree_maker n) p 0 (inside concrete s) w.0 is w.1) w.2 in
      (v.0, ap (option_and_then (ended concrete (tree_maker n p))) w.1 ∙ v.1)
  item_there f h w = grows trees_tell fs (tree_maker n p) s f refl h
