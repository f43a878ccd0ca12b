use Rattle.std.proofs.Common.{◌++◌, ◌≡◌, ℕ, List, Bor, drop, map}
use Rattle.serde_json.specs.Data.{array}
use Rattle.wcv_core.specs.declared.features.WasmFeatures.{WasmFeatures}
use Rattle.wcv_write.specs.Json.{tokens_of, tokens_of_items}
use Rattle.wcv_write.specs.Listing.{feature_items}
use Rattle.wcv_write.proofs.listing.write_names.Given as goal

abbrev pub row_view : Bor (List ℕ) × WasmFeatures → List ℕ × ℕ
row_view row = (row.0.now, row.1.0)

abbrev pub invariant-loop-name : goal.invariant-loop-name
invariant-loop-name l =
    l.out ++ tokens_of_items (feature_items l.features (map row_view (drop l.name-index l.names))) ≡ l.fn.out ++ tokens_of (array (feature_items l.features (map row_view l.names)))
