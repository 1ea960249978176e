use Rattle.questions.proofs.Cases.{numbers_other, numbers_short, numbers_told}
use Rattle.questions.proofs.tap_numbers.Goals as goal
use Rattle.questions.proofs.tap_numbers.Goals.{then-use_-ne-USE_DELIVERY-via-then-use_-ne-USE_DELIVERY, then-use_-ne-USE_DELIVERY-via-else-use_-ne-USE_DELIVERY+then-selector-lt10}

-- `questions::tap_numbers` meets its contract. Each test is one half of the condition; the two fields are the selector's parts. Assumes nothing.
pub returns-then-use_-ne-USE_DELIVERY : goal.returns-then-use_-ne-USE_DELIVERY
returns-then-use_-ne-USE_DELIVERY c =
    elim c.then-use_-ne-USE_DELIVERY.branch [
      | then-use_-ne-USE_DELIVERY-via-then-use_-ne-USE_DELIVERY w ↦ search numbers_other
      | then-use_-ne-USE_DELIVERY-via-else-use_-ne-USE_DELIVERY+then-selector-lt10 w ↦ search numbers_short
    ]

pub returns : goal.returns
returns c = search numbers_told
