-- The features that a listing names.
use Rattle.std.specs.Prelude.{ℕ, Option, Some, None, option_map, option_and_then}
use Rattle.std.specs.Int.RustNames.{bit_or}
use Rattle.serde_json.specs.Data.{Data, Items, no_items, item}
use Rattle.serde_json.specs.Find.{as_array, as_str}
use Rattle.wcv_core.specs.Features.{feature_names, default_features}
use Rattle.wcv_core.specs.declared.features.WasmFeatures.{WasmFeatures}
use Rattle.wcv_listing.specs.Fields.{both, named}

-- the bit of the feature that a text names
abbrev pub feature_bit : Data → Option ℕ
feature_bit d = option_and_then (named feature_names) (as_str d)

-- the union of the features that are named
abbrev pub union_of : Items → Option ℕ
union_of no_items = Some 0
union_of (item d ds) = both bit_or (feature_bit d) (union_of ds)

-- [feature, ..]
abbrev pub features_of : Data → Option WasmFeatures
features_of d = option_map (λ bits. record { 0 = bits }) (option_and_then union_of (as_array d))

-- what the key `features` holds, or the default set where it is absent
abbrev pub features_in : Option Data → Option WasmFeatures
features_in None = Some default_features
features_in (Some d) = features_of d
