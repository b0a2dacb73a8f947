pub mod FramesOfStack
pub mod Taking
pub mod FinishHandsOut
