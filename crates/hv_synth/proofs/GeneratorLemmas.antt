-- The bytes of generated video: how many they are, and which sample stands where.
use Rattle.std.proofs.Common.{◌≡◌, ℕ, zero, suc, ◌+◌, ◌-◌, ◌*◌, ◌/◌, ◌<◌, ◌≤◌, [], ◌++◌, Some, None, length, get_or, Option, refl, sym, ◌∙◌, ap, subst, arith, append-nil, length-append}
use Rattle.std.specs.Prelude.{All}
use Rattle.std.specs.List.{flat_map}
use Rattle.std.proofs.lemmas.List.{get_or_append_left, get_or-append_right}
use Rattle.std.proofs.lemmas.Nat.{mul-add-lt}
use Rattle.hv_lemmas.specs.Lists.{tabulate}
use Rattle.hv_lemmas.proofs.ListLemmas.{length-tabulate, get_or-tabulate}
use Rattle.hv_types.specs.Configuration.{IsValid, picture_bytes_of, picture_bytes, pictures_asked}
use Rattle.hv_types.specs.Video.{IsPicture, HasBytes, raw, pictures, rest}
use Rattle.hv_types.specs.VideoLaws.{ReadAs}
use Rattle.hv_types.specs.declared.picture.Picture.{Picture}
use Rattle.hv_types.specs.declared.settings.Settings.{Settings}
use Rattle.hv_types.specs.declared.settings.SynthSpec.{SynthSpec}
use Rattle.hv_types.proofs.SampleLemmas.{length-rows, get_or-rows, IsPlane-plane_of, All-rows}
use Rattle.hv_types.proofs.ConfigurationLemmas.{picture_bytes-least}
use Rattle.hv_types.proofs.VideoLemmas.{raw_counts_bytes, pictures_read_back}
use Rattle.hv_synth.specs.Generator.{luma, cb, cr, generated_picture, generated_pictures, generated}
use Rattle.hv_synth.specs.GeneratorLaws.{IsVideo, GeneratedIsVideo}
use Rattle.hv_synth.specs.declared.component.Component.{Component}
use Rattle.hv_synth.specs.declared.component.Component.TheVariants.{Luma, Cb, Cr}
use Rattle.hv_synth.specs.Runs.{IsPlace, side_of, sample_of, byte_of, Generates}

pub is_picture : (w h seed t : ℕ) → 2 ≤ w → 2 ≤ h → IsPicture w h (generated_picture w h seed t)
is_picture w h seed t wide high = record {
  luma = IsPlane-plane_of w h (luma seed t) (omega arith) (omega arith);
  cb = IsPlane-plane_of (w / 2) (h / 2) (cb seed t) (omega arith) (omega arith);
  cr = IsPlane-plane_of (w / 2) (h / 2) (cr t) (omega arith) (omega arith);
}

pub has_bytes : (w h seed t : ℕ) → HasBytes (generated_picture w h seed t)
has_bytes w h seed t = record {
  luma = All-rows (λ s. s < 256) w h (luma seed t) (λ x y. omega arith);
  cb = All-rows (λ s. s < 256) (w / 2) (h / 2) (cb seed t) (λ x y. omega arith);
  cr = All-rows (λ s. s < 256) (w / 2) (h / 2) (cr t) (λ x y. omega arith);
}

-- what holds of each picture of a table
All-tabulate : (P : Picture → Type 0) (n : ℕ) (f : ℕ → Picture) → ((i : ℕ) → P (f i)) → All P
    (tabulate n f)
All-tabulate P n f each = λ k d below.
    let inside : k < n = omega (arith, length-tabulate n f) in
    subst P (sym (get_or-tabulate n k f d inside)) (each k)

-- pictures of size bytes each
length-pictures : (n size : ℕ) (f : ℕ → Picture) → ((i : ℕ) → length (raw (f i)) ≡ size) → length
    (flat_map raw (tabulate n f)) ≡ n * size
unfolding tabulate
length-pictures zero size f each = omega arith
length-pictures (suc n) size f each =
    omega (
      arith,
      length-append (raw (f 0)) (flat_map raw (tabulate n (λ i. f (suc i)))),
      each 0,
      length-pictures n size (λ i. f (suc i)) (λ i. each (suc i)),
    )

-- byte o of picture t
get_or-pictures : (n size t o : ℕ) (f : ℕ → Picture) → ((i : ℕ) → length (raw (f i)) ≡ size) → t < n →
    o < size → get_or (flat_map raw (tabulate n f)) (t * size + o) 0 ≡ get_or (raw (f t)) o 0
unfolding tabulate
get_or-pictures zero size t o f each there inside = absurd (omega arith)
get_or-pictures (suc n) size zero o f each there inside =
    let here : 0 * size + o ≡ o = omega arith in
    ap (λ i. get_or (raw (f 0) ++ flat_map raw (tabulate n (λ i. f (suc i)))) i 0) here
    ∙ get_or_append_left (raw (f 0)) (flat_map raw (tabulate n (λ i. f (suc i)))) 0 o
    (omega (arith, each 0))
get_or-pictures (suc n) size (suc t) o f each there inside =
    let later : ℕ → Picture = λ i. f (suc i) in
    let on : suc t * size + o - size ≡ t * size + o = omega arith in
    get_or-append_right (raw (f 0)) (flat_map raw (tabulate n later)) size (suc t * size + o) 0
    (each 0) (omega arith)
    ∙ ap (λ i. get_or (flat_map raw (tabulate n later)) i 0) on
    ∙ get_or-pictures n size t o later (λ i. each (suc i)) (omega arith) inside

length-raw : (w h seed t : ℕ) → 2 ≤ w → 2 ≤ h → length
    (raw (generated_picture w h seed t)) ≡ picture_bytes_of w h
length-raw w h seed t wide high =
    raw_counts_bytes w h (generated_picture w h seed t) (is_picture w h seed t wide high)

all_pictures : (s : Settings) (spec : SynthSpec) → s.synth ≡ Some spec → generated s ≡ tabulate
    spec.pictures (generated_picture s.width s.height spec.seed)
all_pictures s spec named = ap (generated_pictures s.width s.height) named

each_length : (s : Settings) (seed i : ℕ) → IsValid s → length
    (raw (generated_picture s.width s.height seed i)) ≡ picture_bytes s
each_length s seed i valid = length-raw s.width s.height seed i (omega arith) (omega arith)

pub length-generated : (s : Settings) (spec : SynthSpec) → Generates s spec → length
    (flat_map raw (generated s)) ≡ spec.pictures * picture_bytes s
length-generated s spec it =
    ap (λ ps. length (flat_map raw ps)) (all_pictures s spec it.named)
    ∙ length-pictures spec.pictures (picture_bytes s) (generated_picture s.width s.height spec.seed)
    (λ i. each_length s spec.seed i it.valid)

-- no generator, no bytes
pub generated-none : (s : Settings) → s.synth ≡ None → generated s ≡ []
generated-none s none = ap (generated_pictures s.width s.height) none

-- byte o of picture t
get_or-generated : (s : Settings) (spec : SynthSpec) (t o i : ℕ) → Generates s spec →
    t < spec.pictures → o < picture_bytes s → i ≡ t * picture_bytes s + o → byte_of s i ≡ get_or
    (raw (generated_picture s.width s.height spec.seed t)) o 0
get_or-generated s spec t o i it there inside at =
    ap (λ ps. get_or (flat_map raw ps) i 0) (all_pictures s spec it.named)
    ∙ ap (λ j. get_or (flat_map raw (tabulate spec.pictures
    (generated_picture s.width s.height spec.seed))) j 0) at
    ∙ get_or-pictures spec.pictures (picture_bytes s) t o
    (generated_picture s.width s.height spec.seed) (λ j. each_length s spec.seed j it.valid) there
    inside

-- the samples of a picture by their planes
in_luma : (w h seed t x y : ℕ) → x < w → y < h → get_or (raw (generated_picture w h seed t))
    (y * w + x) 0 ≡ luma seed t x y
in_luma w h seed t x y across down =
    let p : Picture = generated_picture w h seed t in
    get_or_append_left p.luma.samples (p.cb.samples ++ p.cr.samples) 0 (y * w + x)
    (omega (arith, length-rows w h (luma seed t), mul-add-lt y w x h down across))
    ∙ get_or-rows w h x y (y * w + x) (luma seed t) across down refl

in_cb : (w h seed t x y : ℕ) → x < w / 2 → y < h / 2 → get_or (raw (generated_picture w h seed t))
    (w * h + (y * (w / 2) + x)) 0 ≡ cb seed t x y
in_cb w h seed t x y across down =
    let p : Picture = generated_picture w h seed t in
    let o : ℕ = y * (w / 2) + x in
    let on : w * h + o - w * h ≡ o = omega arith in
    get_or-append_right p.luma.samples (p.cb.samples ++ p.cr.samples) (w * h) (w * h + o) 0
    (length-rows w h (luma seed t)) (omega arith)
    ∙ ap (λ i. get_or (p.cb.samples ++ p.cr.samples) i 0) on
    ∙ get_or_append_left p.cb.samples p.cr.samples 0 o
    (omega (arith, length-rows (w / 2) (h / 2) (cb seed t), mul-add-lt y (w / 2) x (h / 2) down across))
    ∙ get_or-rows (w / 2) (h / 2) x y o (cb seed t) across down refl

in_cr : (w h seed t x y : ℕ) → x < w / 2 → y < h / 2 → get_or (raw (generated_picture w h seed t))
    (w * h + (w / 2 * (h / 2) + (y * (w / 2) + x))) 0 ≡ cr t x y
in_cr w h seed t x y across down =
    let p : Picture = generated_picture w h seed t in
    let o : ℕ = y * (w / 2) + x in
    let c : ℕ = w / 2 * (h / 2) in
    let on : w * h + (c + o) - w * h ≡ c + o = omega arith in
    let on_cr : c + o - c ≡ o = omega arith in
    get_or-append_right p.luma.samples (p.cb.samples ++ p.cr.samples) (w * h) (w * h + (c + o)) 0
    (length-rows w h (luma seed t)) (omega arith)
    ∙ ap (λ i. get_or (p.cb.samples ++ p.cr.samples) i 0) on
    ∙ get_or-append_right p.cb.samples p.cr.samples c (c + o) 0
    (length-rows (w / 2) (h / 2) (cb seed t)) (omega arith)
    ∙ ap (λ i. get_or p.cr.samples i 0) on_cr
    ∙ get_or-rows (w / 2) (h / 2) x y o (cr t) across down refl

-- A run of n samples from column x of row y on, at place i of the bytes, in each of the planes.
pub luma_run : (s : Settings) (spec : SynthSpec) (t x y n i k : ℕ) → Generates s spec →
    t < spec.pictures → x + n ≤ s.width → y < s.height →
    i ≡ t * picture_bytes s + (y * s.width + x) → k < n → byte_of s (i + k) ≡ luma spec.seed t
    (x + k) y
luma_run s spec t x y n i k it there across down at inside =
    let place : y * s.width + (x + k) < s.width * s.height = mul-add-lt y s.width (x + k) s.height
    down (omega arith) in
    get_or-generated s spec t (y * s.width + (x + k)) (i + k) it there (omega arith) (omega arith)
    ∙ in_luma s.width s.height spec.seed t (x + k) y (omega arith) down

pub cb_run : (s : Settings) (spec : SynthSpec) (t x y n i k : ℕ) → Generates s spec →
    t < spec.pictures → x + n ≤ s.width / 2 → y < s.height / 2 →
    i ≡ t * picture_bytes s + (s.width * s.height + (y * (s.width / 2) + x)) → k < n → byte_of s
    (i + k) ≡ cb spec.seed t (x + k) y
cb_run s spec t x y n i k it there across down at inside =
    let place : y * (s.width / 2) + (x + k) < s.width / 2 * (s.height / 2) = mul-add-lt y
    (s.width / 2) (x + k) (s.height / 2) down (omega arith) in
    get_or-generated s spec t (s.width * s.height + (y * (s.width / 2) + (x + k))) (i + k) it there
    (omega arith) (omega arith)
    ∙ in_cb s.width s.height spec.seed t (x + k) y (omega arith) down

pub cr_run : (s : Settings) (spec : SynthSpec) (t x y n i k : ℕ) → Generates s spec →
    t < spec.pictures → x + n ≤ s.width / 2 → y < s.height / 2 →
    i ≡ t * picture_bytes s + (s.width * s.height + (s.width / 2 * (s.height / 2) +
    (y * (s.width / 2) + x))) → k < n → byte_of s (i + k) ≡ cr t (x + k) y
cr_run s spec t x y n i k it there across down at inside =
    let place : y * (s.width / 2) + (x + k) < s.width / 2 * (s.height / 2) = mul-add-lt y
    (s.width / 2) (x + k) (s.height / 2) down (omega arith) in
    get_or-generated s spec t
    (s.width * s.height + (s.width / 2 * (s.height / 2) + (y * (s.width / 2) + (x + k)))) (i + k) it
    there (omega arith) (omega arith)
    ∙ in_cr s.width s.height spec.seed t (x + k) y (omega arith) down

-- in any of them
pub samples_run : (s : Settings) (spec : SynthSpec) (component : Component) (t x y place n k : ℕ) →
    Generates s spec → t < spec.pictures → IsPlace s place component x y →
    x + n ≤ side_of component s.width → k < n → byte_of s
    (t * picture_bytes s + place + k) ≡ sample_of component spec.seed t (x + k) y
samples_run s spec Luma t x y place n k it there is across inside =
    luma_run s spec t x y n (t * picture_bytes s + place) k it there across is.down
    (omega (arith, is.at)) inside
samples_run s spec Cb t x y place n k it there is across inside =
    cb_run s spec t x y n (t * picture_bytes s + place) k it there across is.down
    (omega (arith, is.at)) inside
samples_run s spec Cr t x y place n k it there is across inside =
    cr_run s spec t x y n (t * picture_bytes s + place) k it there across is.down
    (omega (arith, is.at)) inside

made_is_video : (s : Settings) (spec : SynthSpec) → IsValid s → s.synth ≡ Some spec → IsVideo s
made_is_video s spec valid named =
    let it : Generates s spec = record { valid = valid; named = named } in
    let is = all_pictures s spec named in
    let make : ℕ → Picture = generated_picture s.width s.height spec.seed in
    let whole : All (IsPicture s.width s.height) (generated s) =
    subst (λ ps. All (IsPicture s.width s.height) ps) (sym is)
    (All-tabulate (IsPicture s.width s.height) spec.pictures make
    (λ i. is_picture s.width s.height spec.seed i (omega arith) (omega arith))) in
    let some : 0 < picture_bytes s = omega (arith, picture_bytes-least s valid) in
    let back : ReadAs s.width s.height (generated s) [] (flat_map raw (generated s) ++ []) =
    pictures_read_back s.width s.height (generated s) [] whole some in
    let all : flat_map raw (generated s) ++ [] ≡ flat_map raw (generated s) = append-nil
    (flat_map raw (generated s)) in
    record {
      count = ap length is ∙ length-tabulate spec.pictures make ∙ ap pictures_asked (sym named);
      whole = whole;
      bytes = subst (λ ps. All HasBytes ps) (sym is)
          (All-tabulate HasBytes spec.pictures make (has_bytes s.width s.height spec.seed));
      pictures_again = ap (pictures s.width s.height) (sym all) ∙ back.pictures_again;
      rest_again = ap (rest s.width s.height) (sym all) ∙ back.rest_again;
    }

none_is_video : (s : Settings) → IsValid s → s.synth ≡ None → IsVideo s
none_is_video s valid none =
    let is : generated s ≡ [] = generated-none s none in
    let whole : All (IsPicture s.width s.height) (generated s) =
    subst (λ ps. All (IsPicture s.width s.height) ps) (sym is) (λ k d below. absurd (omega arith)) in
    let some : 0 < picture_bytes s = omega (arith, picture_bytes-least s valid) in
    let back : ReadAs s.width s.height (generated s) [] (flat_map raw (generated s) ++ []) =
    pictures_read_back s.width s.height (generated s) [] whole some in
    let all : flat_map raw (generated s) ++ [] ≡ flat_map raw (generated s) = append-nil
    (flat_map raw (generated s)) in
    record {
      count = ap length is ∙ ap pictures_asked (sym none);
      whole = whole;
      bytes = subst (λ ps. All HasBytes ps) (sym is) (λ k d below. absurd (omega arith));
      pictures_again = ap (pictures s.width s.height) (sym all) ∙ back.pictures_again;
      rest_again = ap (rest s.width s.height) (sym all) ∙ back.rest_again;
    }

is_video_by : (s : Settings) (o : Option SynthSpec) → s.synth ≡ o → IsValid s → IsVideo s
is_video_by s None named valid = none_is_video s valid named
is_video_by s (Some spec) named valid = made_is_video s spec valid named

pub generated_is_video : GeneratedIsVideo
generated_is_video s valid = is_video_by s s.synth refl valid
