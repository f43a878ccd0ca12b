use Rattle.std.proofs.Common.{◌≡◌, false, bytes_eq, refl}
use Rattle.std.specs.Prelude.{codes}
use Rattle.wcv_listing.specs.Seen.{view}
use Rattle.wcv_listing.proofs.Rooted.{differs, version_put, end_put, features_put, other_put}
use Rattle.wcv_listing.proofs.root.see_value.Goals as goal

pub returns-in-version : goal.returns-in-version
returns-in-version c = λ ms old. rw c.in-version.is (version_put c.args.seen.now _ (view c.args.value) ms old c.natural_of-seen.ensures refl refl refl refl)

pub returns-in-end : goal.returns-in-end
returns-in-end c = λ ms old. rw c.in-end.is (end_put c.args.seen.now _ (view c.args.value) ms old refl c.natural_of-seen-in-end.ensures refl refl refl)

pub returns-in-features : goal.returns-in-features
returns-in-features c = λ ms old. rw c.in-features.is (features_put c.args.seen.now _ (view c.args.value) ms old refl refl c.read_features-seen.ensures refl refl)

pub returns-in_default : goal.returns-in_default
returns-in_default c =
    let key = c.args.key.now in
    let not_version : bytes_eq key (codes "version") ≡ false = differs key (codes "version") c.in_default.not-version in
    let not_end : bytes_eq key (codes "end") ≡ false = differs key (codes "end") c.in_default.not-end in
    let not_features : bytes_eq key (codes "features") ≡ false = differs key (codes "features") c.in_default.not-features in
    λ ms old. other_put c.args.seen.now _ (view c.args.value) ms old key not_version c.requires not_end not_features refl refl refl refl refl
