-- The laws of padding, of cropping, and of pictures in a row of bytes.
use Rattle.std.proofs.Common.{◌≡◌, ℕ, zero, suc, ◌+◌, ◌*◌, ◌/◌, ◌%◌, ◌<◌, ◌≤◌, List, [], ◌∷◌, ◌++◌, length, take, drop, get_or, refl, sym, ◌∙◌, ap, ap₂, subst, arith, length-append, append_assoc, take-add}
use Rattle.std.specs.Prelude.{All}
use Rattle.std.specs.List.{flat_map}
use Rattle.std.proofs.lemmas.List.{length-take-le, take_at, drop_at, drop-drop, take-append-drop, length-drop}
use Rattle.std.proofs.lemmas.List.Elements.{All-append, All-take, All-drop}
use Rattle.std.proofs.lemmas.Nat.{mul-add-lt, div-mul-add, mod_below, div-add-mod', row_fits}
use Rattle.hv_lemmas.specs.Lists.{tabulate}
use Rattle.hv_types.specs.Samples.{Plane, IsPlane, pad_plane, crop_plane}
use Rattle.hv_types.specs.Configuration.{picture_bytes_of}
use Rattle.hv_types.specs.Video.{IsPicture, raw, front_plane, picture_of, picture_count, pictures, padded_side}
use Rattle.hv_types.specs.VideoLaws.{CropUndoesPad, PadGivesPicture, CountsRaw, IsFront, FrontIsPicture, PicturesReadBack, BytesAreSplit, KeepBytes}
use Rattle.hv_types.specs.declared.picture.Picture.{Picture}
use Rattle.hv_lemmas.proofs.ListLemmas.{length-tabulate, get_or-tabulate, tabulate-same}
use Rattle.hv_types.proofs.SampleLemmas.{IsPlane-pad, crop-pad, HasByteSamples-pad, HasByteSamples-crop}

abbrev picture : Plane → Plane → Plane → Picture
picture luma cb cr = record { luma = luma; cb = cb; cr = cr }

-- a picture is its three planes
same_picture : (a₁ a₂ b₁ b₂ c₁ c₂ : Plane) → a₁ ≡ a₂ → b₁ ≡ b₂ → c₁ ≡ c₂ → picture a₁ b₁
    c₁ ≡ picture a₂ b₂ c₂
same_picture a₁ a₂ b₁ b₂ c₁ c₂ luma cb cr = cc

IsPlane-pad_to : (p : Plane) (w h v u : ℕ) → w ≡ v → h ≡ u → 0 < w → 0 < h → IsPlane v u
    (pad_plane p w h)
IsPlane-pad_to p w h v u across down wide high =
    record { wide = across; high = down; whole = (IsPlane-pad p w h wide high).whole }

pub pad_gives_picture : PadGivesPicture
pad_gives_picture w h p it =
    let w_is : p.luma.width ≡ w = it.luma.wide in
    let h_is : p.luma.height ≡ h = it.luma.high in
    let wide : 0 < p.luma.width = it.luma.whole.wide in
    let high : 0 < p.luma.height = it.luma.whole.high in
    let half : ℕ → ℕ = λ n. padded_side n / 2 in
    record {
      luma = IsPlane-pad_to p.luma (padded_side p.luma.width) (padded_side p.luma.height)
          (padded_side w) (padded_side h) (ap padded_side w_is) (ap padded_side h_is) (omega arith)
          (omega arith);
      cb = IsPlane-pad_to p.cb (half p.luma.width) (half p.luma.height) (half w) (half h)
          (ap half w_is) (ap half h_is) (omega arith) (omega arith);
      cr = IsPlane-pad_to p.cr (half p.luma.width) (half p.luma.height) (half w) (half h)
          (ap half w_is) (ap half h_is) (omega arith) (omega arith);
    }

pub crop_undoes_pad : CropUndoesPad
crop_undoes_pad w h p it =
    let w_is : p.luma.width ≡ w = it.luma.wide in
    let h_is : p.luma.height ≡ h = it.luma.high in
    let w_to : ℕ = padded_side p.luma.width in
    let h_to : ℕ = padded_side p.luma.height in
    same_picture (crop_plane (pad_plane p.luma w_to h_to) w h) p.luma
    (crop_plane (pad_plane p.cb (w_to / 2) (h_to / 2)) (w / 2) (h / 2)) p.cb
    (crop_plane (pad_plane p.cr (w_to / 2) (h_to / 2)) (w / 2) (h / 2)) p.cr
    (crop-pad w h w_to h_to p.luma it.luma (omega arith) (omega arith))
    (crop-pad (w / 2) (h / 2) (w_to / 2) (h_to / 2) p.cb it.cb (omega arith) (omega arith))
    (crop-pad (w / 2) (h / 2) (w_to / 2) (h_to / 2) p.cr it.cr (omega arith) (omega arith))

length-samples : (w h : ℕ) (p : Plane) → IsPlane w h p → length p.samples ≡ w * h
length-samples w h p it = it.whole.count ∙ ap₂ (λ a b. a * b) it.wide it.high

pub raw_counts_bytes : CountsRaw
raw_counts_bytes w h p it =
    omega (
      arith,
      length-append p.luma.samples (p.cb.samples ++ p.cr.samples),
      length-append
          p.cb.samples p.cr.samples,
      length-samples w h p.luma it.luma,
      length-samples (w / 2) (h / 2)
          p.cb it.cb,
      length-samples (w / 2) (h / 2) p.cr it.cr,
    )

product_positive : (w h : ℕ) → 0 < w → 0 < h → 0 < w * h
product_positive w h wide high = omega (arith, mul-add-lt 0 w 0 h high wide)

-- the plane at the front of enough bytes
IsPlane-front_plane : (w h : ℕ) (bytes : List ℕ) → 0 < w → 0 < h → w * h ≤ length bytes → IsPlane w
    h (front_plane w h bytes)
IsPlane-front_plane w h bytes wide high enough =
    record {
      wide = refl;
      high = refl;
      whole = record
          { count = length-take-le (w * h) bytes enough; wide = wide; high = high };
    }

-- what is taken in three parts
take_parts : (a c : ℕ) (bytes : List ℕ) → take a
    bytes ++ (take c (drop a bytes) ++ take c (drop (a + c) bytes)) ≡ take (a + 2 * c) bytes
take_parts a c bytes =
    let whole : a + (c + c) ≡ a + 2 * c = omega arith in
    ap (λ t. take a bytes ++ (take c (drop a bytes) ++ take c t)) (sym (drop-drop c a bytes))
    ∙ ap (λ t. take a bytes ++ t) (sym (take-add c c (drop a bytes)))
    ∙ sym (take-add a (c + c) bytes)
    ∙ ap (λ n. take n bytes) whole

pub front_is_picture : FrontIsPicture
front_is_picture w h bytes wide high enough =
    let a : ℕ = w * h in
    let c : ℕ = w / 2 * (h / 2) in
    record {
      whole = record {
        luma = IsPlane-front_plane w h bytes (omega arith) (omega arith) (omega arith);
        cb = IsPlane-front_plane (w / 2) (h / 2) (drop a bytes) (omega arith) (omega arith)
            (omega (arith, length-drop a bytes));
        cr = IsPlane-front_plane (w / 2) (h / 2) (drop (a + c) bytes) (omega arith) (omega arith)
            (omega (arith, length-drop (a + c) bytes));
      };
      bytes_again = take_parts a c bytes;
    }

plane_at_front : (w h : ℕ) (p : Plane) (more : List ℕ) → IsPlane w h p → front_plane w h
    (p.samples ++ more) ≡ p
plane_at_front w h p more it =
    let samples : take (w * h) (p.samples ++ more) ≡ p.samples = take_at p.samples more (w * h)
    (length-samples w h p it) in
    let made : (v u : ℕ) (s : List ℕ) → v ≡ w → u ≡ h → take (w * h) (p.samples ++ more) ≡ s →
    front_plane w h (p.samples ++ more) ≡ record { width = v; height = u; samples = s } =
    λ v u s e₁ e₂ e₃. cc in
    made p.width p.height p.samples it.wide it.high samples

-- a picture is read back from its bytes, whatever follows them
pub picture_of-raw : (w h : ℕ) (p : Picture) (more : List ℕ) → IsPicture w h p → picture_of w h
    (raw p ++ more) ≡ p
picture_of-raw w h p more it =
    let a : ℕ = w * h in
    let c : ℕ = w / 2 * (h / 2) in
    let luma : List ℕ = p.luma.samples in
    let cb : List ℕ = p.cb.samples in
    let cr : List ℕ = p.cr.samples in
    let bytes : List ℕ = raw p ++ more in
    let parts : bytes ≡ luma ++ (cb ++ (cr ++ more)) =
    append_assoc luma (cb ++ cr) more ∙ ap (λ t. luma ++ t) (append_assoc cb cr more) in
    let behind_luma : drop a bytes ≡ cb ++ (cr ++ more) =
    ap (λ t. drop a t) parts ∙ drop_at luma (cb ++ (cr ++ more)) a
    (length-samples w h p.luma it.luma) in
    let behind_cb : drop (a + c) bytes ≡ cr ++ more =
    sym (drop-drop c a bytes) ∙ ap (λ t. drop c t) behind_luma ∙ drop_at cb (cr ++ more) c
    (length-samples (w / 2) (h / 2) p.cb it.cb) in
    same_picture (front_plane w h bytes) p.luma (front_plane (w / 2) (h / 2) (drop a bytes)) p.cb
    (front_plane (w / 2) (h / 2) (drop (a + c) bytes)) p.cr
    (ap (λ t. front_plane w h t) parts ∙ plane_at_front w h p.luma (cb ++ (cr ++ more)) it.luma)
    (ap (λ t. front_plane (w / 2) (h / 2) t) behind_luma ∙ plane_at_front (w / 2) (h / 2) p.cb
    (cr ++ more) it.cb)
    (ap (λ t. front_plane (w / 2) (h / 2) t) behind_cb ∙ plane_at_front (w / 2) (h / 2) p.cr more
    it.cr)

-- the pictures that stand at each multiple of n
each_picture : ℕ → ℕ → ℕ → ℕ → List ℕ → List Picture
each_picture w h n k bytes = tabulate k (λ i. picture_of w h (drop (i * n) bytes))

-- the first picture, and the others in what follows it
each_picture_first : (w h n k : ℕ) (bytes : List ℕ) → each_picture w h n (suc k) bytes ≡ picture_of
    w h bytes ∷ each_picture w h n k (drop n bytes)
unfolding each_picture tabulate
each_picture_first w h n k bytes =
    let none : 0 * n ≡ 0 = omega arith in
    let first : picture_of w h (drop (0 * n) bytes) ≡ picture_of w h bytes = ap
    (λ i. picture_of w h (drop i bytes)) none in
    let later : tabulate k (λ i. picture_of w h (drop (suc i * n) bytes)) ≡ tabulate k
    (λ i. picture_of w h (drop (i * n) (drop n bytes))) =
    tabulate-same k (λ i. picture_of w h (drop (suc i * n) bytes))
    (λ i. picture_of w h (drop (i * n) (drop n bytes)))
    (λ i below.
    let on : suc i * n ≡ n + i * n = omega arith in
    ap (λ m. picture_of w h (drop m bytes)) on ∙ ap (λ t. picture_of w h t)
    (sym (drop-drop (i * n) n bytes))) in
    cc

first_is : (w h : ℕ) (p : Picture) (ps : List Picture) → All (IsPicture w h) (p ∷ ps) → IsPicture w
    h p
first_is w h p ps all = all 0 p (omega arith)

later_are : (w h : ℕ) (p : Picture) (ps : List Picture) → All (IsPicture w h) (p ∷ ps) → All
    (IsPicture w h) ps
later_are w h p ps all k d below = all (suc k) d (omega arith)

length-flat_map-raw : (w h : ℕ) (ps : List Picture) → All (IsPicture w h) ps → length
    (flat_map raw ps) ≡ length ps * picture_bytes_of w h
length-flat_map-raw w h [] all = omega arith
length-flat_map-raw w h (p ∷ ps) all =
    let n : ℕ = picture_bytes_of w h in
    let on : suc (length ps) * n ≡ n + length ps * n = omega arith in
    omega (
      arith,
      on,
      length-append (raw p) (flat_map raw ps),
      raw_counts_bytes w h p
          (first_is w h p ps all),
      length-flat_map-raw w h ps (later_are w h p ps all),
    )

each_picture-flat_map : (w h : ℕ) (ps : List Picture) (bs : List ℕ) → All (IsPicture w h) ps →
    each_picture w h (picture_bytes_of w h) (length ps) (flat_map raw ps ++ bs) ≡ ps
each_picture-flat_map w h [] bs all = unfold each_picture tabulate in refl
each_picture-flat_map w h (p ∷ ps) bs all =
    let n : ℕ = picture_bytes_of w h in
    let more : List ℕ = flat_map raw ps ++ bs in
    let parts : (raw p ++ flat_map raw ps) ++ bs ≡ raw p ++ more = append_assoc (raw p)
    (flat_map raw ps) bs in
    ap (λ t. each_picture w h n (suc (length ps)) t) parts
    ∙ each_picture_first w h n (length ps) (raw p ++ more)
    ∙ ap₂ (λ q t. q ∷ each_picture w h n (length ps) t)
    (picture_of-raw w h p more (first_is w h p ps all))
    (drop_at (raw p) more n (raw_counts_bytes w h p (first_is w h p ps all)))
    ∙ ap (λ t. p ∷ t) (each_picture-flat_map w h ps bs (later_are w h p ps all))

pub pictures_read_back : PicturesReadBack
unfolding each_picture
pictures_read_back w h ps bs all short =
    let n : ℕ = picture_bytes_of w h in
    let k : ℕ = length ps in
    let bytes : List ℕ = flat_map raw ps ++ bs in
    let size : length (flat_map raw ps) ≡ k * n = length-flat_map-raw w h ps all in
    let count : picture_count w h bytes ≡ k =
    ap (λ m. m / n) (length-append (flat_map raw ps) bs ∙ ap (λ m. m + length bs) size)
    ∙ div-mul-add k n (length bs) short in
    record {
      pictures_again = ap (λ m. each_picture w h n m bytes) count ∙ each_picture-flat_map w h ps bs
          all;
      rest_again = ap (λ m. drop (m * n) bytes) count ∙ drop_at (flat_map raw ps) bs (k * n) size;
    }

each_picture_joined : (w h k : ℕ) (bytes : List ℕ) → 2 ≤ w → 2 ≤ h → k * picture_bytes_of w
    h ≤ length bytes → flat_map raw (each_picture w h (picture_bytes_of w h) k bytes) ++ drop
    (k * picture_bytes_of w h) bytes ≡ bytes
each_picture_joined w h zero bytes wide high enough =
    let none : 0 * picture_bytes_of w h ≡ 0 = omega arith in
    let empty : each_picture w h (picture_bytes_of w h) 0 bytes ≡ [] = unfold each_picture tabulate
    in refl in
    ap₂ (λ ps m. flat_map raw ps ++ drop m bytes) empty none
each_picture_joined w h (suc k) bytes wide high enough =
    let n : ℕ = picture_bytes_of w h in
    let on : suc k * n ≡ n + k * n = omega arith in
    let later : List Picture = each_picture w h n k (drop n bytes) in
    let front : IsFront w h bytes = front_is_picture w h bytes wide high (omega arith) in
    ap₂ (λ ps t. flat_map raw ps ++ t) (each_picture_first w h n k bytes)
    (ap (λ m. drop m bytes) on ∙ sym (drop-drop (k * n) n bytes))
    ∙ append_assoc (raw (picture_of w h bytes)) (flat_map raw later) (drop (k * n) (drop n bytes))
    ∙ ap₂ (λ a b. a ++ b) front.bytes_again
    (each_picture_joined w h k (drop n bytes) wide high (omega (arith, length-drop n bytes)))
    ∙ take-append-drop n bytes

pub bytes_are_split : BytesAreSplit
unfolding each_picture
bytes_are_split w h bytes wide high =
    let n : ℕ = picture_bytes_of w h in
    let k : ℕ = picture_count w h bytes in
    let some : 0 < n = omega (arith, product_positive w h (omega arith) (omega arith)) in
    let parts : k * n + length bytes % n ≡ length bytes = div-add-mod' (length bytes) n in
    let left : length bytes % n < n = mod_below (length bytes) n some in
    let at : (i : ℕ) → i < k → IsPicture w h (picture_of w h (drop (i * n) bytes)) = λ i below.
    let within : i * n + n ≤ k * n = row_fits i n k n below (omega arith) in
    (front_is_picture w h (drop (i * n) bytes) wide high
    (omega (arith, length-drop (i * n) bytes))).whole in
    record {
      whole = λ i d below.
          let here : i < k = omega (
            arith,
            length-tabulate k
                (λ i. picture_of w h (drop (i * n) bytes)),
          ) in
          let is : get_or (pictures w h bytes) i d ≡ picture_of w h (drop (i * n) bytes) =
          get_or-tabulate k i (λ i. picture_of w h (drop (i * n) bytes)) d here in
          subst (λ p. IsPicture w h p) (sym is) (at i here);
      short = omega (arith, length-drop (k * n) bytes);
      joined = each_picture_joined w h k bytes wide high (omega arith);
    }

pub bytes_are_kept : KeepBytes
bytes_are_kept = record {
  of_front = λ w h bytes all.
      let part : (n m : ℕ) → All (λ b. b < 256) (take n (drop m bytes)) = λ n m.
      All-take (λ b. b < 256) n (drop m bytes) (All-drop (λ b. b < 256) m bytes all) in
      record {
        luma = All-take (λ b. b < 256) (w * h) bytes all;
        cb = part (w / 2 * (h / 2)) (w * h);
        cr = part (w / 2 * (h / 2)) (w * h + w / 2 * (h / 2));
      };
  of_pad = λ p it. record {
    luma = HasByteSamples-pad p.luma (padded_side p.luma.width) (padded_side p.luma.height) it.luma;
    cb = HasByteSamples-pad p.cb (padded_side p.luma.width / 2) (padded_side p.luma.height / 2)
        it.cb;
    cr = HasByteSamples-pad p.cr (padded_side p.luma.width / 2) (padded_side p.luma.height / 2)
        it.cr;
  };
  of_crop = λ w h p it. record {
    luma = HasByteSamples-crop p.luma w h it.luma;
    cb = HasByteSamples-crop p.cb (w / 2) (h / 2) it.cb;
    cr = HasByteSamples-crop p.cr (w / 2) (h / 2) it.cr;
  };
  of_raw = λ p it. All-append (λ b. b < 256) p.luma.samples (p.cb.samples ++ p.cr.samples) it.luma
      (All-append (λ b. b < 256) p.cb.samples p.cr.samples it.cb it.cr);
}
