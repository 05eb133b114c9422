-- Laws of what the calls hand back.
mod LeftBuffers
