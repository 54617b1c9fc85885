-- The bytes of a grey picture, cropped: each is the middle one of the values of a sample.
use Rattle.std.proofs.Common.{◌≡◌, ℕ, ◌+◌, ◌*◌, ◌/◌, ◌<◌, ◌≤◌, List, ◌++◌, sym, ap, ap₂, ◌∙◌, arith}
use Rattle.std.specs.Prelude.{replicate}
use Rattle.std.proofs.lemmas.List.{replicate-append-replicate}
use Rattle.hv_types.specs.declared.settings.Settings.{Settings}
use Rattle.hv_types.specs.Configuration.{IsValid, padded_width, padded_height, picture_bytes}
use Rattle.hv_types.specs.Samples.{Plane, sample_at, filled_plane, crop_plane}
use Rattle.hv_types.specs.Video.{raw, crop}
use Rattle.hv_types.proofs.SampleLemmas.{IsPlane-plane_of, plane_is, replicate-rows, sample_at-filled_plane}
use Rattle.hv_recon_model.specs.BlankLaws.{grey}

-- a plane of one value, cropped
cropped : (w h W H v : ℕ) → 0 < w → 0 < h → w ≤ W → h ≤ H →
    (crop_plane (filled_plane W H v) w h).samples ≡ replicate (w * h) v
cropped w h W H v wide high inside below =
    let small : Plane = filled_plane w h v in
    ap (λ (p : Plane). p.samples)
    (sym (plane_is w h (λ x y. sample_at (filled_plane W H v) x y) small
    (IsPlane-plane_of w h (λ x y. v) wide high)
    (λ x y across down.
    sample_at-filled_plane w h x y v across down ∙
    sym (sample_at-filled_plane W H x y v (omega (arith, across, inside))
    (omega (arith, down, below)))))) ∙
    sym (replicate-rows w h v wide)

pub grey_bytes : (cfg : Settings) → IsValid cfg →
    raw (crop (grey (padded_width cfg) (padded_height cfg)) cfg.width cfg.height) ≡
    replicate (picture_bytes cfg) 128
grey_bytes cfg valid =
    let w : ℕ = cfg.width in
    let h : ℕ = cfg.height in
    let W : ℕ = padded_width cfg in
    let H : ℕ = padded_height cfg in
    let a : ℕ = w * h in
    let c : ℕ = w / 2 * (h / 2) in
    let chroma : (crop_plane (filled_plane (W / 2) (H / 2) 128) (w / 2) (h / 2)).samples ≡
    replicate c 128 =
    cropped (w / 2) (h / 2) (W / 2) (H / 2) 128 (omega (arith, valid.width_least))
    (omega (arith, valid.height_least)) (omega arith) (omega arith) in
    let both : c + c ≡ 2 * c = omega arith in
    ap₂ (λ (x y : List ℕ). x ++ y)
    (cropped w h W H 128 (omega (arith, valid.width_least)) (omega (arith, valid.height_least))
    (omega arith) (omega arith))
    (ap₂ (λ (x y : List ℕ). x ++ y) chroma chroma ∙ replicate-append-replicate c c 128 ∙
    ap (λ (n : ℕ). replicate n 128) both) ∙
    replicate-append-replicate a (2 * c) 128
