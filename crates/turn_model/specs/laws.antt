-- What is proved of the definitions beside this folder.
pub mod StepLaws
pub mod CarriedLaws
pub mod AllowedLaws
pub mod DeliveryLaws
pub mod RisingLaws
pub mod MayIssueLaws
pub mod CutLaws
pub mod PumpLaws
pub mod PumpedLaws
pub mod CountingLaws
