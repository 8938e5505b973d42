-- What `==` says of two stations.
use Rattle.std.proofs.Common.{◌≡◌, ◌∙◌, Bool, true, false, ◌&&◌, ◌==◌, Decides, ap, refl}
use Rattle.std.specs.Str.{bytes_eq}
use Rattle.std.proofs.lemmas.Bool.Decides.{Decides-eqb}
use Rattle.std.proofs.lemmas.Slice.Eq.{bytes_eq-Decides}
use Rattle.pair_model.specs.declared.Station.{Station}

-- two tests hold where both of them together do
both_true : (one other : Bool) → (one && other) ≡ true → (one ≡ true) × (other ≡ true)
both_true true true e = (refl, refl)
both_true true false e = absurd (cc e)
both_true false other e = absurd (cc e)

-- and both together where each does
true_by_both : (one other : Bool) → one ≡ true → other ≡ true → (one && other) ≡ true
true_by_both true other e f = f
true_by_both false other e f = e

-- stations with the same address and port are the same
same_fields : (one other : Station) → one.address ≡ other.address → one.port ≡ other.port → one ≡ other
same_fields one other address port =
    ap (λ bytes. record { address = bytes; port = one.port }) address ∙ ap (λ number. record { address = other.address; port = number }) port

-- comparing addresses and ports decides whether they are the same
pub told_stations : (one other : Station) → Decides (bytes_eq one.address other.address && (one.port == other.port)) (one ≡ other)
told_stations one other = (forth, back)
  where
    forth : (bytes_eq one.address other.address && (one.port == other.port)) ≡ true → one ≡ other
    forth equal =
        let both = both_true (bytes_eq one.address other.address) (one.port == other.port) equal in
        same_fields one other ((bytes_eq-Decides one.address other.address).0 both.0) ((Decides-eqb one.port other.port).0 both.1)

    back : one ≡ other → (bytes_eq one.address other.address && (one.port == other.port)) ≡ true
    back same =
        true_by_both (bytes_eq one.address other.address) (one.port == other.port)
        ((bytes_eq-Decides one.address other.address).1 (ap (λ (station : Station). station.address) same))
        ((Decides-eqb one.port other.port).1 (ap (λ (station : Station). station.port) same))
