-- The root of a listing of version 1.
use Rattle.std.specs.Prelude.{ℕ, List, [], ◌∷◌, Option, if◌then◌else◌, codes}
use Rattle.serde_json.specs.Data.{Data, string, array, object, Items, no_items, item, Members, no_members, member}
use Rattle.wcv_core.specs.Features.{has_feature, feature_names}
use Rattle.wcv_core.specs.declared.features.WasmFeatures.{WasmFeatures}
use Rattle.wcv_syntax.specs.Model.{Text, Entry}
use Rattle.wcv_write.specs.Indices.{Indexing}
use Rattle.wcv_write.specs.Items.{entry_data}
use Rattle.wcv_write.specs.Json.{count, list_data, with_optional}

-- the names, of some features, of those in a set
abbrev pub feature_items : WasmFeatures → List (Text × ℕ) → Items
feature_items fs [] = no_items
feature_items fs (row ∷ rows) = if has_feature fs row.1 then item (string row.0) (feature_items fs rows) else feature_items fs rows

-- [feature, ..], in the order of their bits
unfoldable pub features_data : WasmFeatures → Data
features_data fs = array (feature_items fs feature_names)

-- the last members of a root
abbrev pub last_members : Indexing → List Entry → Members
last_members ix es = member (codes "items") (list_data (entry_data ix) es) (member (codes "version") (count 1) no_members)

-- {"end": offset, "features": [feature, ..], "items": [item, ..], "version": 1}, the features absent or there
unfoldable pub listing_data : Indexing → Option WasmFeatures → List Entry → ℕ → Data
listing_data ix fs es end = object (member (codes "end") (count end) (with_optional (codes "features") features_data fs (last_members ix es)))
