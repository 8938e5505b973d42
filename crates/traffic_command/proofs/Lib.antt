mod WholeStreams
