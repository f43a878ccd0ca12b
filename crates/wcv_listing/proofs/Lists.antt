-- Reading a list one thing after another.
use Rattle.std.proofs.Common.{◌≡◌, ◌++◌, ◌∷◌, [], List, Option, Some, None, option_map, map, refl, sym, ap, ◌∙◌, append_assoc, append-nil}
use Rattle.std.proofs.lemmas.List.{map_push}
use Rattle.serde_json.specs.Data.{Data, Items, no_items, item}
use Rattle.wcv_listing.specs.Fields.{both, all_of}

-- what was read, and then the rest
abbrev pub read_then : {Y : Type 0} → List Y → Option (List Y) → Option (List Y)
read_then before rest = option_map (λ ys. before ++ ys) rest

then_one_more : {Y : Type 0} (before : List Y) (y : Y) (rest : Option (List Y)) → read_then (before ++ y ∷ []) rest ≡ read_then before (option_map (λ ys. y ∷ ys) rest)
then_one_more before y None = refl
then_one_more before y (Some ys) = ap Some (append_assoc before (y ∷ []) ys)

module _ {X Y : Type 0} (seen : X → Y) (meant : Data → Option Y) where
  pub one_more : (all : Option (List Y)) (ds rest : Items) (d : Data) (before more : List X) (x : X) → ds ≡ item d rest → option_map seen (Some x) ≡ meant d → more ≡ before ++ x ∷ []
      → read_then (map seen before) (all_of meant ds) ≡ all → read_then (map seen more) (all_of meant rest) ≡ all
  one_more all ds rest d before more x next is pushed h =
      let others : Option (List Y) = all_of meant rest in
      ap (λ (xs : List X). read_then (map seen xs) others) pushed ∙ ap (λ (ys : List Y). read_then ys others) (map_push seen before x) ∙ then_one_more (map seen before) (seen x) others
      ∙ ap (λ (y : Option Y). read_then (map seen before) (both (λ z zs. z ∷ zs) y others)) is ∙ sym (ap (λ (x : Items). read_then (map seen before) (all_of meant x)) next) ∙ h

  pub no_more : (all : Option (List Y)) (ds : Items) (before : List X) → ds ≡ no_items → read_then (map seen before) (all_of meant ds) ≡ all → Some (map seen before) ≡ all
  no_more all ds before done h =
      ap Some (sym (append-nil (map seen before))) ∙ sym (ap (λ (x : Items). read_then (map seen before) (all_of meant x)) done) ∙ h

  pub none_read : (all : Option (List Y)) (ds rest : Items) (d : Data) (before : List X) → ds ≡ item d rest → None ≡ meant d
      → read_then (map seen before) (all_of meant ds) ≡ all → None ≡ all
  none_read all ds rest d before next is h =
      let others : Option (List Y) = all_of meant rest in
      ap (λ (y : Option Y). read_then (map seen before) (both (λ z zs. z ∷ zs) y others)) is ∙ sym (ap (λ (x : Items). read_then (map seen before) (all_of meant x)) next) ∙ h
