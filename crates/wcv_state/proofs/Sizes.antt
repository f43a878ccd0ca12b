-- Size and depth of a state are those of a component with its entries.
use Rattle.std.proofs.Common.{◌≡◌, ℕ, suc, ◌+◌, max, List, [], ◌∷◌, ◌++◌, sym, ◌∙◌, ap, arith}
use Rattle.wcv_core.specs.Names.{Name}
use Rattle.wcv_types.specs.Entities.{entry_tree, entry_trees}
use Rattle.wcv_types.specs.Measure.{size, sizes, depth, depths}
use Rattle.wcv_types.specs.Tree.{Text, Extern_name, Role, Parts, none, entries, import, export}
use Rattle.wcv_types.specs.declared.info.TypeInfo.{TypeInfo}
use Rattle.wcv_types.specs.declared.item_map.ComponentItem.{ComponentItem}
use Rattle.wcv_types.proofs.Each.{map-push}
use Rattle.wcv_lower.specs.Context.{Side, importing, exporting, joined, same_side}
use Rattle.wcv_lower.specs.Trees.{Type_tree}
use Rattle.wcv_spaces.specs.Contents.{Contents, Listed, sides, side_parts, IsSized}
use Rattle.wcv_spaces.specs.Looking.{with_entry}

module _ (role : Extern_name → Role) where
  -- one more entry
  sizes-push : (es : List (Extern_name × Type_tree)) (e : Extern_name × Type_tree) (ps : Parts Name Name) → sizes (entries role (es ++ e ∷ []) ps) ≡ sizes (entries role es ps) + size e.1
  sizes-push [] e ps = omega arith
  sizes-push (x ∷ es) e ps = omega (arith, sizes-push es e ps)

  depths-push : (es : List (Extern_name × Type_tree)) (e : Extern_name × Type_tree) (ps : Parts Name Name) → depths (entries role (es ++ e ∷ []) ps) ≡ max (depths (entries role es ps)) (depth e.1)
  depths-push [] e ps = omega arith
  depths-push (x ∷ es) e ps = omega (arith, depths-push es e ps)

  -- more behind the entries
  sizes-behind : (es : List (Extern_name × Type_tree)) (ps qs : Parts Name Name) (n : ℕ) → sizes ps ≡ sizes qs + n → sizes (entries role es ps) ≡ sizes (entries role es qs) + n
  sizes-behind [] ps qs n h = h
  sizes-behind (x ∷ es) ps qs n h = omega (arith, sizes-behind es ps qs n h)

  depths-behind : (es : List (Extern_name × Type_tree)) (ps qs : Parts Name Name) (n : ℕ) → depths ps ≡ max (depths qs) n → depths (entries role es ps) ≡ max (depths (entries role es qs)) n
  depths-behind [] ps qs n h = h
  depths-behind (x ∷ es) ps qs n h = omega (arith, depths-behind es ps qs n h)

module _ (ts : List Type_tree) where
  -- the same entries with the same size and depth
  pub same_sized : (z s' : Contents) → s'.info ≡ z.info → ((d : Side) → sides s' d ≡ sides z d) → IsSized ts z → IsSized ts s'
  same_sized z s' i l h =
      let same : side_parts ts s' ≡ side_parts ts z = λ j. entries import (entry_trees ts (l importing j)) (entries export (entry_trees ts (l exporting j)) none) in
      record {
        size = ap (λ (x : TypeInfo). x.size) i ∙ h.size ∙ ap (λ (ps : Parts Name Name). suc (sizes ps)) (sym same);
        depth = ap (λ (x : TypeInfo). x.depth) i ∙ h.depth ∙ ap (λ (ps : Parts Name Name). suc (depths ps)) (sym same);
      }

  module _ (z : Contents) (e : Text × ComponentItem) where
    abbrev listed : Listed → List (Extern_name × Type_tree)
    listed es = entry_trees ts es

    -- the parts with one more entry of that side
    abbrev parts_with : Side → Parts Name Name
    parts_with importing = entries import (listed (z.imports ++ e ∷ [])) (entries export (listed z.exports) none)
    parts_with exporting = entries import (listed z.imports) (entries export (listed (z.exports ++ e ∷ [])) none)

    more_sizes : (d : Side) → sizes (parts_with d) ≡ sizes (side_parts ts z) + size (entry_tree ts e).1
    more_sizes importing =
        ap (λ (es : List (Extern_name × Type_tree)). sizes (entries import es (entries export (listed z.exports) none))) (map-push (entry_tree ts) z.imports e) ∙
        sizes-push import (listed z.imports) (entry_tree ts e) (entries export (listed z.exports) none)
    more_sizes exporting =
        sizes-behind import (listed z.imports) (entries export (listed (z.exports ++ e ∷ [])) none) (entries export (listed z.exports) none) (size (entry_tree ts e).1)
        (ap (λ (es : List (Extern_name × Type_tree)). sizes (entries {R = Name} {I = Name} export es none)) (map-push (entry_tree ts) z.exports e) ∙ sizes-push export (listed z.exports) (entry_tree ts e) none)

    more_depths : (d : Side) → depths (parts_with d) ≡ max (depths (side_parts ts z)) (depth (entry_tree ts e).1)
    more_depths importing =
        ap (λ (es : List (Extern_name × Type_tree)). depths (entries import es (entries export (listed z.exports) none))) (map-push (entry_tree ts) z.imports e) ∙
        depths-push import (listed z.imports) (entry_tree ts e) (entries export (listed z.exports) none)
    more_depths exporting =
        depths-behind import (listed z.imports) (entries export (listed (z.exports ++ e ∷ [])) none) (entries export (listed z.exports) none) (depth (entry_tree ts e).1)
        (ap (λ (es : List (Extern_name × Type_tree)). depths (entries {R = Name} {I = Name} export es none)) (map-push (entry_tree ts) z.exports e) ∙ depths-push export (listed z.exports) (entry_tree ts e) none)

    parts_are : (d : Side) (s' : Contents) → ((j : Side) → sides s' j ≡ joined (same_side j d) (sides z j) e) → side_parts ts s' ≡ parts_with d
    parts_are importing s' l = λ j. entries import (listed (l importing j)) (entries export (listed (l exporting j)) none)
    parts_are exporting s' l = λ j. entries import (listed (l importing j)) (entries export (listed (l exporting j)) none)

    -- one more entry of a side, with its size and its depth
    pub joined_sized : (d : Side) (s' : Contents) → s'.info ≡ with_entry z.info (entry_tree ts e).1 → ((j : Side) → sides s' j ≡ joined (same_side j d) (sides z j) e) → IsSized ts z → IsSized ts s'
    joined_sized d s' i l h =
        let p : side_parts ts s' ≡ parts_with d = parts_are d s' l in
        let n : sizes (side_parts ts s') ≡ sizes (side_parts ts z) + size (entry_tree ts e).1 = ap sizes p ∙ more_sizes d in
        let m : depths (side_parts ts s') ≡ max (depths (side_parts ts z)) (depth (entry_tree ts e).1) = ap depths p ∙ more_depths d in
        let a = h.size in
        let b = h.depth in
        record {
          size = ap (λ (x : TypeInfo). x.size) i ∙ omega (arith, a, n);
          depth = ap (λ (x : TypeInfo). x.depth) i ∙ omega (arith, b, m);
        }
