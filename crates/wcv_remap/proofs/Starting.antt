-- A map that replaces resources alone.
use Rattle.std.proofs.Common.{◌≡◌, ◌<◌, List, [], refl, subst, arith}
use Rattle.std.specs.Prelude.{None, Contains}
use Rattle.wcv_types.specs.Arena.{Arena}
use Rattle.wcv_types.specs.Replacing.{Replacement}
use Rattle.wcv_types.specs.declared.ids.Part.{Part}
use Rattle.wcv_types.specs.declared.ids.ResourceId.{ResourceId}
use Rattle.wcv_remap.specs.Map.{Sent, Map, resources_by}
use Rattle.wcv_remap.specs.Remap.{Sound}

abbrev pub resources_alone : Map → Replacement
resources_alone map = record { resources = resources_by map; nodes = λ i. None; again = λ i. i }

no_types : (map : Map) (q : Part) (s : Sent) → map.types ≡ [] → Contains map.types (q, s) → ⊥
no_types map q s e c = let d : Contains [] (q, s) = subst (λ (es : List (Part × Sent)). Contains es (q, s)) e c in absurd (omega (arith, d.1))

pub sound_new : (a : Arena) (map : Map) → map.types ≡ [] → ((r q : ResourceId) → Contains map.resources (r, q) → q.index < a.resources) → Sound a map
sound_new a map e h = record {
  some = (resources_alone map, record { resources = λ r. refl; entries = λ q s c. absurd (no_types map q s e c); others = λ i n. refl });
  resources = h;
  sends = λ q s c. absurd (no_types map q s e c);
  visited = λ q s c. absurd (no_types map q s e c);
  apart = λ q r t u v. absurd (no_types map q u.sent e u.there);
}
