-- The rows of docs/WHEEL.md follow from the law, each from when false is answered. Assumes nothing.
use borrow.Author.Tests.{not-true, not-false}
use Rattle.numbers.proofs.TestLaws.{not_right}
use Rattle.axis.specs.WheelLaw.{from_trackpad, from_momentum}
use Rattle.axis.specs.WheelRows.{RowsOfTheLaw}

pub rows_of_the_law : RowsOfTheLaw
rows_of_the_law axis offset vel scroll bounced left law =
    let taken = left.consumed in
    let exactly = law.exactly in record {
      delta_0 = λ d. not-true taken (rw d at exactly);
      off_can = λ off d c. not-false taken (rw (d, c) at exactly);
      off_nobody = λ off d c. not-true taken (rw (d, c, off) at exactly);
      others_can = λ t on d c. not-false taken (rw (d, c) at exactly);
      others_nobody = λ t on d c. not-true taken (rw (d, c, on, t, not_right (from_trackpad scroll) (from_momentum scroll) t) at exactly);
      trackpads_can = λ t on d c. not-false taken (rw (d, c) at exactly);
      trackpads_overscroll = λ t on d c o. not-false taken (rw (d, c, o, on, t) at exactly);
      trackpads_no_parent = λ t on d c o p. not-false taken (rw (d, c, o, p, on, t) at exactly);
      trackpad_nobody = λ s on d c o p. not-true taken (rw (d, c, o, p, on, s) at exactly);
      momentum_corner = λ s on d c o p b. not-false taken (rw (d, c, o, p, on, s, b) at exactly);
      momentum_nobody = λ s on d c o p b. not-true taken (rw (d, c, o, p, on, s, b) at exactly);
    }
