use Rattle.std.proofs.Common.{◌+◌, ◌*◌, refl, arith, rules, sym, ◌∙◌}
use Rattle.hv_lanes.specs.Lanes.{Numbers}
use Rattle.hv_transform.specs.Columns.{pass_mean}
use Rattle.hv_transform.proofs.CornerLemmas.{zeros, zero_rows, few_32, few_others_32, column_of_0, numbers_of_short}
use Rattle.hv_transform.proofs.InverseLaneLemmas.{mean_fits, bits_of_pairs, inverse_is, pass_at}
use Rattle.hv_transform.proofs.inverse_lanes.corner_32.Goals as goal

pub weave-requires : goal.weave-requires
weave-requires c = (
  omega arith,
  (
    omega arith,
    (
      omega arith,
      (
        c.requires.block,
        (
          omega arith,
          (
            omega arith,
            (
              omega arith,
              (
                omega arith,
                (
                  omega arith,
                  (
                    omega arith,
                    (c.requires.numbers, (c.order_of_32.ensures.pairs, ((λ _. c.requires.rows), (λ _. zero_rows 16 72)))),
                  ),
                ),
              ),
            ),
          ),
        ),
      ),
    ),
  ),
)

pub first_columns_32-requires-clause-numbers : goal.first_columns_32-requires-clause-numbers
first_columns_32-requires-clause-numbers c =
    bits_of_pairs 3 32 8 c.args.block.now c.weave.new.out c.requires.numbers (c.weave.ensures 3 c.order_of_32.ensures.order)

pub first_columns_32-requires-clause-few : goal.first_columns_32-requires-clause-few
first_columns_32-requires-clause-few c = few_32 8 c.args.block.now c.weave.new.out (c.weave.ensures 3 c.order_of_32.ensures.order) c.requires.rows

pub first_columns_32-requires-clause-few_others : goal.first_columns_32-requires-clause-few_others
first_columns_32-requires-clause-few_others c = few_others_32 8 c.args.block.now c.weave.new.out (c.weave.ensures 3 c.order_of_32.ensures.order) c.requires.rows

pub first_columns_32-requires-clause-clear : goal.first_columns_32-requires-clause-clear
first_columns_32-requires-clause-clear c = zeros 1024

pub weave-requires-2 : goal.weave-requires-2
weave-requires-2 c =
    let numbers : Numbers c.first_columns_32.new.out = numbers_of_short 256 (pass_mean 3 c.weave.new.out 7) c.first_columns_32.new.out c.first_columns_32.ensures.first c.first_columns_32.ensures.rest (mean_fits 3 c.weave.new.out 7) in (
      omega arith,
      (
        omega arith,
        (
          omega arith,
          (
            search rules,
            (
              omega arith,
              (
                omega arith,
                (
                  omega arith,
                  (
                    omega arith,
                    (
                      omega arith,
                      (
                        omega arith,
                        (numbers, (c.order_of_32-2.ensures.pairs, ((λ _. c.first_columns_32.ensures.rest), (λ _. zero_rows 16 72)))),
                      ),
                    ),
                  ),
                ),
              ),
            ),
          ),
        ),
      ),
    )

pub pass_32-requires : goal.pass_32-requires
pass_32-requires c =
    let numbers : Numbers c.first_columns_32.new.out = numbers_of_short 256 (pass_mean 3 c.weave.new.out 7) c.first_columns_32.new.out c.first_columns_32.ensures.first c.first_columns_32.ensures.rest (mean_fits 3 c.weave.new.out 7) in (
      omega arith,
      (
        omega arith,
        (
          omega arith,
          (
            omega arith,
            (
              bits_of_pairs 3 32 32 c.first_columns_32.new.out c.weave-2.new.out numbers (c.weave-2.ensures 3 c.order_of_32-2.ensures.order),
              ((λ _. few_32 32 c.first_columns_32.new.out c.weave-2.new.out (c.weave-2.ensures 3 c.order_of_32-2.ensures.order) c.first_columns_32.ensures.rest), ((λ _. few_others_32 32 c.first_columns_32.new.out c.weave-2.new.out (c.weave-2.ensures 3 c.order_of_32-2.ensures.order) c.first_columns_32.ensures.rest), (c.second_weights_32.ensures, (omega arith, (omega arith, c.requires.room))))),
            ),
          ),
        ),
      ),
    )

pub returns : goal.returns
returns c =
    inverse_is 3 8 c.args.block.now c.args.block.now c.weave.new.out c.first_columns_32.new.out c.weave-2.new.out c.pass_32.new.out (omega arith) (omega arith)
    (record {
      narrowed = λ k below. refl;
      woven = c.weave.ensures 3 c.order_of_32.ensures.order;
      first = λ i j across down. pass_at 3 7 256 i j c.weave.new.out c.first_columns_32.new.out c.first_columns_32.ensures.first (omega (arith, across, down)) down;
      others = λ i j outside inside down.
          c.first_columns_32.ensures.rest (i * 32 + j) (omega (arith, outside)) ∙
          sym (column_of_0 5 i j c.args.block.now c.requires.rows (λ k first. c.requires.columns k i first outside inside));
      woven_again = c.weave-2.ensures 3 c.order_of_32-2.ensures.order;
      second = c.pass_32.ensures;
      whole = omega arith;
    })
