-- One frame more for the pictures of a group.
use Rattle.std.proofs.Common.{◌≡◌, ℕ, zero, suc, ◌+◌, ◌*◌, List, [], ◌∷◌, ◌++◌, length, ap, ◌∙◌, subst, arith, length-append}
use Rattle.std.specs.Prelude.{is_some, replicate, slice_get, Some}
use Rattle.std.proofs.lemmas.Bool.{false≢true}
use Rattle.std.proofs.lemmas.List.{length-replicate}
use Rattle.hv_lemmas.proofs.OptionLemmas.{some_same}
use Rattle.hv_types.specs.declared.settings.Settings.{Settings}
use Rattle.hv_types.specs.Configuration.{columns, rows}
use Rattle.hv_types.specs.Video.{IsPadded}
use Rattle.hv_filter_model.specs.SampleAdaptiveOffset.{off_param}
use Rattle.hv_block.specs.declared.frame.Frame.{Frame}
use Rattle.hv_serial.specs.Workspaces.{IsFrame}

each_more : (P : Frame → Type 0) (old : List Frame) (frame : Frame) →
    ((slot : ℕ) (f : Frame) → slice_get old slot ≡ Some f → P f) → P frame → (slot : ℕ)
    (f : Frame) → slice_get (old ++ frame ∷ []) slot ≡ Some f → P f
each_more P [] frame before is zero f there = subst P (some_same frame f there) is
each_more P [] frame before is (suc slot) f there = absurd (false≢true (ap is_some there))
each_more P (g ∷ old) frame before is zero f there = before 0 f there
each_more P (g ∷ old) frame before is (suc slot) f there =
    each_more P old frame (λ s h at. before (suc s) h at) is slot f there

pub new_frame : (cfg : Settings) (frame : Frame) →
    IsPadded cfg frame.shown × IsPadded cfg frame.working →
    frame.sao.items ≡ replicate (columns cfg * rows cfg) off_param → IsFrame cfg frame
new_frame cfg frame padded sao = record {
  shown = padded.0;
  working = padded.1;
  sao = ap (λ offsets. length offsets) sao ∙ length-replicate (columns cfg * rows cfg) off_param;
}

pub one_frame_more : (cfg : Settings) (old new : List Frame) (frame : Frame) (n : ℕ) →
    (length old ≡ n) ×
    ((slot : ℕ) (f : Frame) → slice_get old slot ≡ Some f → IsFrame cfg f) →
    new ≡ old ++ frame ∷ [] → IsFrame cfg frame →
    (length new ≡ n + 1) ×
    ((slot : ℕ) (f : Frame) → slice_get new slot ≡ Some f → IsFrame cfg f)
one_frame_more cfg old new frame n before is whole =
    let count = before.0 in
    let long = length-append old (frame ∷ []) in (
      ap (λ list. length list) is ∙ omega (arith, count, long),
      λ slot f there.
          each_more (IsFrame cfg) old frame before.1 whole slot f
          (subst (λ list. slice_get list slot ≡ Some f) is there),
    )
